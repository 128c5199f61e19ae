use Rattle.std.specs.Vec.Iter.{into_iter_items}
use Rattle.query_session.specs.Chain.{AreReady}
use Rattle.lane_workers.proofs.run.hire.Given as goal

-- the seats that are left are of the chain, and idle
abbrev pub invariant-loop-seat : goal.invariant-loop-seat
invariant-loop-seat g l = record {
  can : (goal.iterator-loop-seat g).can_next l.seat-iterator;
  ends : (goal.iterator-loop-seat g).is_finite l.seat-iterator;
  seats : AreReady l.chain (into_iter_items l.seat-iterator);
}
