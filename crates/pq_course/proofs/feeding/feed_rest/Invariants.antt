use Rattle.std.proofs.Common.{◌≡◌, ◌<◌, ◌≤◌, false, length}
use Rattle.pq_base.specs.Causes.{CountsOnce}
use Rattle.pq_course.proofs.FeedLemmas.{IsFedSoFar}
use Rattle.pq_course.proofs.feeding.feed_rest.Given as goal

-- the pieces so far were fed
abbrev pub invariant-pieces : goal.invariant-pieces
invariant-pieces g l =
    let rest = g.K.Shelf.rest in
    let faults = g.K.Shelf.faults in
    record {
      files : g.K.Shelf.files l.shelf ≡ g.K.Shelf.files l.fn.shelf;
      asked : g.K.Shelf.asked l.shelf ≡ g.K.Shelf.asked l.fn.shelf;
      later : faults l.fn.shelf ≤ faults l.shelf;
      counted : CountsOnce g.K.Shelf.counts_each (faults l.fn.shelf) (faults l.shelf) false;
      room : 0 < length l.piece;
      so_far : IsFedSoFar (rest l.fn.shelf) (rest l.shelf) l.fn.limit l.left l.fn.reader l.reader;
    }

abbrev pub decreases-pieces : goal.decreases-pieces
decreases-pieces g l = l.left
