use Rattle.query_session.specs.Session.{IsSessionOf}
use Rattle.lane_workers.specs.Running.{IsPrinting}
use Rattle.lane_workers.proofs.printing.print_all.Given as goal

-- as many items are printed as the session was given
abbrev pub invariant-loop : goal.invariant-loop
invariant-loop g l = record {
  can : (goal.iterator-loop g).can_next l.iterator';
  ends : (goal.iterator-loop g).is_finite l.iterator';
  mine : IsSessionOf l.chain l.session;
  printing : IsPrinting g.P.Printer l.fn.session l.session l.fn.printer l.printer;
}
