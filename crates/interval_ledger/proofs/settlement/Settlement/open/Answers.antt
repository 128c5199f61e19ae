use Rattle.std.proofs.Common.{sym, ap, subst}
use Rattle.interval_ledger.specs.IsLedger.{settlement_of}
use Rattle.interval_ledger.specs.Settlement.{IsPosted}
use Rattle.interval_ledger.proofs.settlement.Settlement.open.Goals as goal

pub returns-clause-posted : goal.returns-clause-posted
returns-clause-posted c =
    subst IsPosted (ap settlement_of (sym c.in_ok-merging-2.ensures.ok)) c.in_ok-merging.ensures.ledger.posted
