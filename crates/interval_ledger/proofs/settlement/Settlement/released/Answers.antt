use Rattle.std.proofs.Common.{◌∙◌, ap, length}
use Rattle.interval_ledger.specs.declared.merging.Merging.{Merging}
use Rattle.interval_ledger.specs.Settlement.{settled_items}
use Rattle.interval_ledger.proofs.LedgerLaws.{cut_of}
use Rattle.interval_ledger.proofs.settlement.Settlement.released.Goals as goal

-- what is released is the cut at the mark
pub returns : goal.returns
returns c =
    c.released.ensures
    ∙ ap (λ (s : Merging). length s.known.outbox.released) c.deref.ensures
    ∙ ap length (cut_of c.self.inside.merging.value c.self.invariant.merging.at)
    ∙ ap (λ v. length (settled_items v)) c.self.view_is
