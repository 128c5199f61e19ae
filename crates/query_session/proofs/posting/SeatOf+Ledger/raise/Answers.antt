use Rattle.std.proofs.Common.{ap, ◌∙◌, arith}
use Rattle.lanes.specs.Lane.{lane_items}
use Rattle.lanes.proofs.ReachLaws.{reach_done}
use Rattle.query_session.specs.SeatStage.{posted_in}
use Rattle.query_session.proofs.SeatLaws.{all_posted, more_left}
use Rattle.query_session.proofs.posting.SeatOf+Ledger.raise.Goals as goal

pub returns-then-len-gt0-clause-raises : goal.returns-then-len-gt0-clause-raises
returns-then-len-gt0-clause-raises c =
    let s = c.args.self.now in let r = s.pass.seat.me.0.name.recording in
    let some = c.if-len-gt0.true in let size = c.len.ensures.value in (
      c.in-Posted.is,
      more_left s.count s.ahead.measured s.ahead.unmeasured (lane_items r s.lane) s.left
          (omega arith),
      c.due-word.ensures ∙ s.given,
      c.raise.ensures.1,
    )

pub returns-clause-raises : goal.returns-clause-raises
returns-clause-raises c =
    let s = c.args.self.now in let r = s.pass.seat.me.0.name.recording in
    let none = c.if-len-gt0.false in let size = c.len.ensures.value in let counted = s.counted in
    let ready = s.ready c.in-Posted.count (ap posted_in c.in-Posted.is) in
    let all = all_posted s.count s.ahead.measured s.ahead.unmeasured (lane_items r s.lane) s.left ready
    (omega arith) in (
      c.in-Posted.is,
      omega (arith, all, counted),
      c.due-word.ensures ∙ (s.given ∙ reach_done r s.lane s.count all),
      c.raise.ensures.1,
    )
