use Rattle.std.proofs.Common.{◌≡◌, ◌≤◌, ◌+◌, ◌-◌, false, length}
use Rattle.std.specs.Io.KnownBytes.{Consumes}
use Rattle.pq_base.specs.Causes.{CountsOnce}
use Rattle.pq_base.proofs.shelf.read_rest.Given as goal

abbrev pub invariant-loop-piece : goal.invariant-loop-piece
invariant-loop-piece g l =
    let rest = g.K.Shelf.rest in
    let faults = g.K.Shelf.faults in
    record {
      files : g.K.Shelf.files l.shelf ≡ g.K.Shelf.files l.fn.shelf;
      asked : g.K.Shelf.asked l.shelf ≡ g.K.Shelf.asked l.fn.shelf;
      bytes : Consumes (rest l.fn.shelf) (rest l.shelf) l.bytes.items;
      later : faults l.fn.shelf ≤ faults l.shelf;
      counted : CountsOnce g.K.Shelf.counts_each (faults l.fn.shelf) (faults l.shelf) false;
    }

abbrev pub decreases-loop-piece : goal.decreases-loop-piece
decreases-loop-piece g l = l.limit + 1 - length l.bytes.items
