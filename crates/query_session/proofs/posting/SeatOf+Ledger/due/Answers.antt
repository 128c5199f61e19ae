use Rattle.std.proofs.Common.{◌∙◌, ap, sym}
use Rattle.query_session.specs.SeatStage.{posted_in}
use Rattle.query_session.proofs.SeatLaws.{are_keys, due_is}
use Rattle.query_session.proofs.posting.SeatOf+Ledger.due.Goals as goal

pub due-requires : goal.due-requires
due-requires c =
    let s = c.args.self.now in let r = s.pass.seat.me.0.name.recording in
    are_keys r s.lane s.count s.samples s.ahead.measured s.ahead.unmeasured
    (s.bounds.keys s.lane) s.end s.left

pub returns : goal.returns
returns c =
    let s = c.args.self.now in let r = s.pass.seat.me.0.name.recording in
    c.due.ensures
    ∙ (due_is r s.lane s.count s.samples s.ahead.measured s.ahead.unmeasured s.end s.left
    (s.ready c.requires.0 (ap posted_in c.requires.1)) ∙ sym s.given)
