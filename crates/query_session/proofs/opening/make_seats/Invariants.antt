use Rattle.std.proofs.Common.{◌≡◌, ◌+◌, length}
use Rattle.std.specs.Vec.Iter.{into_iter_items}
use Rattle.lanes.specs.Lane.{lane_count}
use Rattle.progress_words.specs.Words.{AreFreshLanes, opening_of}
use Rattle.query_session.specs.Chain.{AreFreshSeats, limits_at}
use Rattle.query_session.proofs.opening.make_seats.Given as goal

abbrev pub invariant-loop-pass : goal.invariant-loop-pass
invariant-loop-pass l = record {
  can : goal.iterator-loop-pass.can_next l.pass-iterator;
  ends : goal.iterator-loop-pass.is_finite l.pass-iterator;
  size : length l.seats.items ≡ l.lane;
  left : l.lane + length (into_iter_items l.pass-iterator) ≡ lane_count l.fn.sources;
  passes : AreFreshLanes l.chain.words (opening_of l.chain.words) l.lane (into_iter_items l.pass-iterator);
  seats : AreFreshSeats l.chain l.fn.sources (limits_at l.chain) 0 l.seats.items;
}
