use Rattle.std.proofs.lemmas.List.Elements.{All-push}
use Rattle.query_session.specs.LaneSeat.{IsSeatIdle, IsSeatOf}
use Rattle.worked_chain.specs.Drivers.{IsLaneDriverOf}
use Rattle.worked_chain.proofs.DriverLaws.{all_first}
use Rattle.worked_chain.proofs.chain_driver.idle_lanes.Goals as goal

-- a lane more
pub loop-seat-preserved : goal.loop-seat-preserved
loop-seat-preserved c =
    let h = c.loop-seat.invariant in
    let both = all_first (λ s. IsSeatOf c.args.chain.now s × IsSeatIdle s) _ _ c.in-Some.seat
    c.in-Some.ensures.steps.0 h.seats in record {
      can = tt;
      ends = tt;
      seats = both.1;
      lanes = rw c.in_ok-push.ensures.items (All-push (IsLaneDriverOf c.args.chain.now) _ _ h.lanes both.0);
    }
