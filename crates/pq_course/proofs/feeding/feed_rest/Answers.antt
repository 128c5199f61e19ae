use Rattle.std.proofs.Common.{◌≡◌, ◌∙◌, ◌+◌, ◌-◌, length, take, false, subst, arith}
use Rattle.std.proofs.lemmas.List.{length-take}
use Rattle.pq_course.proofs.CourseLemmas.{counted_then}
use Rattle.pq_course.proofs.FeedLemmas.{IsFedSoFar, fed_further}
use Rattle.pq_course.proofs.feeding.feed_rest.Goals as goal

-- one more piece was fed
pub pieces-preserved : goal.pieces-preserved
pieces-preserved g c =
    let told = g.K.Shelf in
    let e = c.in_ok-count.ensures in
    let so_far = c.pieces.invariant.so_far in
    let count = c.in_ok-count.count in
    let piece = take count c.read.new.into in
    let left = c.pieces.left - count in
    let room : c.pieces.left ≡ left + length piece =
    omega (arith, length-take count c.read.new.into, e.bound) in
    record {
      files = e.files ∙ c.pieces.invariant.files;
      asked = e.asked ∙ c.pieces.invariant.asked;
      later = omega (arith, e.cause.later, c.pieces.invariant.later);
      counted = counted_then told.counts_each (told.faults c.args.shelf.now) (told.faults c.pieces.shelf)
          (told.faults c.read.new.self) false c.pieces.invariant.counted e.counted;
      room = omega arith;
      so_far = fed_further (told.rest c.args.shelf.now) (told.rest c.pieces.shelf) (told.rest c.read.new.self)
          c.args.limit left c.args.reader.now c.pieces.reader c.feed.new.self piece
          (subst (λ k. IsFedSoFar (told.rest c.args.shelf.now) (told.rest c.pieces.shelf) c.args.limit k
          c.args.reader.now c.pieces.reader) room so_far)
          e.bytes.0 c.feed.ensures.fed;
    }
