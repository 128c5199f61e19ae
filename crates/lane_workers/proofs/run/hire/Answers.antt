use Rattle.query_session.specs.LaneSeat.{IsSeatIdle, IsSeatOf}
use Rattle.lane_workers.proofs.RunLaws.{all_first}
use Rattle.lane_workers.proofs.run.hire.Goals as goal

-- the next seat is of the chain, and idle
pub invariant_of-push : goal.invariant_of-push
invariant_of-push g c =
    let t = all_first (λ s. IsSeatOf c.args.chain.now s × IsSeatIdle s) _ _ c.in-Some.seat
    c.in-Some.ensures.steps.0 c.loop-seat.invariant.seats in record { mine = t.0.0; idle = t.0.1 }

-- and so are those after it
pub loop-seat-preserved : goal.loop-seat-preserved
loop-seat-preserved g c =
    let t = all_first (λ s. IsSeatOf c.args.chain.now s × IsSeatIdle s) _ _ c.in-Some.seat
    c.in-Some.ensures.steps.0 c.loop-seat.invariant.seats in record { can = tt; ends = tt; seats = t.1 }
