use Rattle.std.proofs.Common.{All}
use Rattle.std.specs.Vec.Iter.{into_iter_items}
use Rattle.query_session.specs.LaneSeat.{IsSeatIdle, IsSeatOf}
use Rattle.worked_chain.specs.Drivers.{IsLaneDriverOf}
use Rattle.worked_chain.proofs.chain_driver.idle_lanes.Given as goal

-- the seats that are left are ready, and the lanes so far are of the chain
abbrev pub invariant-loop-seat : goal.invariant-loop-seat
invariant-loop-seat l = record {
  can : goal.iterator-loop-seat.can_next l.seat-iterator;
  ends : goal.iterator-loop-seat.is_finite l.seat-iterator;
  seats : All (λ s. IsSeatOf l.chain s × IsSeatIdle s) (into_iter_items l.seat-iterator);
  lanes : All (IsLaneDriverOf l.chain) l.lanes.items;
}
