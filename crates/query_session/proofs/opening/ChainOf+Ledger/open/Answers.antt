use Rattle.query_session.proofs.OpenLaws.{fresh_ready}
use Rattle.query_session.proofs.opening.ChainOf+Ledger.open.Goals as goal

-- fresh seats are ready
pub returns-clause-ready : goal.returns-clause-ready
returns-clause-ready c = fresh_ready _ _ _ 0 c.in_ok-seats.seats.items c.in_ok-seats.ensures.seats
