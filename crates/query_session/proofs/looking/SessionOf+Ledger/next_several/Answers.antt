use Rattle.std.proofs.Common.{◌∙◌}
use Rattle.query_session.proofs.looking.SessionOf+Ledger.next_several.Goals as goal

-- it still holds the ledger that it took
pub read-requires-clause-holding : goal.read-requires-clause-holding
read-requires-clause-holding c =
    let held = c.in-Held.ensures.grabs in
    (held.1, held.2, held.0, c.take_released.ensures.stage ∙ held.4)
