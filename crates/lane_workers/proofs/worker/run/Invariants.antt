use Rattle.query_session.specs.LaneSeat.{IsSeatIdle, IsSeatOf}
use Rattle.lane_workers.proofs.worker.run.Given as goal

-- the seat is of the chain, and idle
abbrev pub invariant-loop : goal.invariant-loop
invariant-loop g l = record {
  can : (goal.iterator-loop g).can_next l.iterator';
  ends : (goal.iterator-loop g).is_finite l.iterator';
  mine : IsSeatOf l.chain l.seat;
  idle : IsSeatIdle l.seat;
}
