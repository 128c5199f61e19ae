use Rattle.query_session.specs.Session.{GoesOn, IsIdle, IsSessionOf}
use Rattle.query_session.proofs.waiting.SessionOf+Ledger.next_wait.Given as goal

abbrev pub invariant-loop : goal.invariant-loop
invariant-loop g l = record {
  can : (goal.iterator-loop g).can_next l.iterator';
  ends : (goal.iterator-loop g).is_finite l.iterator';
  mine : IsSessionOf l.chain l.self;
  idle : IsIdle l.self;
  on : GoesOn l.fn.self l.self;
}
