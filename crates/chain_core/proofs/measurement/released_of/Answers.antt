use Rattle.std.proofs.Common.{option_and_then, sym, ap, ◌∙◌}
use Rattle.chain_core.proofs.CutLaws.{cut_below, cut_item, item_by}
use Rattle.chain_core.proofs.measurement.released_of.Goals as goal

-- of items in the order of their ends, the cut has the item at the cursor where it ends by the mark
pub returns-clause-value : goal.returns-clause-value
returns-clause-value c =
    c.item_by.ensures ∙ ap (option_and_then (item_by c.args.mark)) c.item_at-found.ensures
    ∙ sym (cut_item c.args.mark c.args.items.now c.args.cursor c.requires)

pub returns-clause-below : goal.returns-clause-below
returns-clause-below c =
    cut_below c.args.mark c.args.items.now c.args.cursor c.item_by.result c.requires (returns-clause-value c)
