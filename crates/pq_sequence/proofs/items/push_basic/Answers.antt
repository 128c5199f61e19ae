use Rattle.std.proofs.Common.{◌∙◌, [], ◌++◌, ◌∷◌, ap, append-nil, sym}
use Rattle.pq_sequence.specs.Measured.{basic_seen}
use Rattle.pq_sequence.specs.MeasuredRecording.{channel_count}
use Rattle.pq_sequence.specs.SequentialResult.{basic_item}
use Rattle.pq_sequence.proofs.ItemLemmas.{items_more, items_none}
use Rattle.pq_sequence.proofs.items.push_basic.Goals as goal

-- no channel yet
pub loop-position-init : goal.loop-position-init
loop-position-init c =
    let r = c.args.recording.now in
    let items = c.args.items.now.items in
    sym (append-nil items)
    ∙ ap (λ xs. items ++ xs)
    (sym (items_none (basic_item r (basic_seen (channel_count r) c.args.basic.now).part)))

-- one channel more
pub loop-position-preserved : goal.loop-position-preserved
loop-position-preserved c =
    let r = c.args.recording.now in
    items_more (basic_item r (basic_seen (channel_count r) c.args.basic.now).part) c.loop-position.position
    c.args.items.now.items c.loop-position.items.items c.push.new.self.items c.loop-position.invariant
    (c.in_ok-push.ensures.items ∙ ap (λ item. c.loop-position.items.items ++ item ∷ []) c.basic_item.ensures)
