use Rattle.std.proofs.Common.{◌∙◌, ap}
use Rattle.query_session.specs.Reading.{cursor_after}
use Rattle.query_session.proofs.ReadLaws.{settled}
use Rattle.query_session.proofs.waiting.SessionOf+Ledger.next_wait.Goals as goal

pub returns-in_default : goal.returns-in_default
returns-in_default g c = let n = c.next-in-loop in let h = c.loop.invariant in record {
  mine = n.ensures.mine;
  idle = n.ensures.idle;
  answers = record {
    last = c.loop.self;
    before = h.on;
    answers = n.ensures.answers;
    settled = settled n.result c.in_default.not-Withheld c.in_default.not-Busy;
  };
  cursor = n.ensures.cursor ∙ ap (λ k. cursor_after k n.result) h.on.cursor;
}
