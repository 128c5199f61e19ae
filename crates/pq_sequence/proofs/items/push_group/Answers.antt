use Rattle.std.proofs.Common.{◌∙◌, [], ◌++◌, ◌∷◌, ap, append-nil, sym}
use Rattle.pq_sequence.specs.Measured.{group_item}
use Rattle.pq_sequence.proofs.ItemLemmas.{items_more, items_none}
use Rattle.pq_sequence.proofs.items.push_group.Goals as goal

-- no channel yet
pub loop-position-init : goal.loop-position-init
loop-position-init c =
    let items = c.args.items.now.items in
    sym (append-nil items)
    ∙ ap (λ xs. items ++ xs) (sym (items_none (group_item c.args.long c.args.recording.now c.args.group.now)))

-- one channel more
pub loop-position-preserved : goal.loop-position-preserved
loop-position-preserved c =
    items_more (group_item c.args.long c.args.recording.now c.args.group.now) c.loop-position.position
    c.args.items.now.items c.loop-position.items.items c.push.new.self.items c.loop-position.invariant
    (c.in_ok-push.ensures.items ∙ ap (λ item. c.loop-position.items.items ++ item ∷ []) c.group_item.ensures)
