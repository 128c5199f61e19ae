use Rattle.std.proofs.Common.{◌∙◌, ◌++◌, ap, take_all, arith}
use Rattle.std.specs.List.{flat_map}
use Rattle.pq_sequence.proofs.ItemLemmas.{items_of_basic, items_of_basics}
use Rattle.pq_sequence.proofs.items.push_basics.Goals as goal

-- the items of all basic intervals
pub returns : goal.returns
returns c =
    let r = c.args.recording.now in
    let basics = c.args.basics.now in
    c.loop-basic.invariant
    ∙ ap (λ bs. c.args.items.now.items ++ flat_map (items_of_basic r) bs)
    (take_all c.loop-basic.basic-index basics (omega arith))
    ∙ ap (λ items. c.args.items.now.items ++ items) (items_of_basics r basics)
