use Rattle.std.proofs.Common.{◌∙◌, ap, slice_get}
use Rattle.interval_ledger.specs.declared.merging.Merging.{Merging}
use Rattle.interval_ledger.specs.Settlement.{settled_items}
use Rattle.interval_ledger.proofs.LedgerLaws.{cut_of}
use Rattle.interval_ledger.proofs.settlement.Settlement.item.Goals as goal

-- what is released is the cut at the mark
pub returns : goal.returns
returns c =
    c.item.ensures
    ∙ ap (λ (s : Merging). slice_get s.known.outbox.released c.args.index) c.deref.ensures
    ∙ ap (λ xs. slice_get xs c.args.index) (cut_of c.self.inside.merging.value c.self.invariant.merging.at)
    ∙ ap (λ v. slice_get (settled_items v) c.args.index) c.self.view_is
