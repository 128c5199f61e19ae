use Rattle.std.proofs.Common.{◌≡◌, ◌∙◌, ◌<◌, List, length, All, ap, sym, subst}
use Rattle.event_detect.specs.declared.event.Event.{Event}
use Rattle.pq_items.specs.ItemRange.{IsItemInRange}
use Rattle.pq_items.specs.declared.item.Item.{Item}
use Rattle.pq_sequence.specs.SequentialResult.{all_items, items_under}
use Rattle.pq_sequence.proofs.RangeLaws.{items_in_range}
use Rattle.pq_sequence.proofs.ResultLaws.{channels_there}
use Rattle.pq_sequence.proofs.sequential.all_items.Goals as goal

-- an event's channel is one of the recording
pub items_under-requires : goal.items_under-requires
items_under-requires c =
    let r = c.args.recording.now in
    subst (λ (events : List Event). All (λ event. event.channel < length r.numbers) events)
    (sym (c.deref.ensures.value ∙ c.in_ok-events.ensures.value))
    (channels_there r c.args.limits.now c.in_ok-events.ensures.conditions)

-- all in range
pub returns-clause-within : goal.returns-clause-within
returns-clause-within c =
    let r = c.args.recording.now in
    let limits = c.args.limits.now in
    let is : c.in_ok-items.items.items ≡ all_items r limits = c.in_ok-items.ensures
    ∙ ap (items_under r) (c.deref.ensures.value ∙ c.in_ok-events.ensures.value) in
    subst (λ (items : List Item). All IsItemInRange items) (sym is)
    (items_in_range r c.in_ok-events.ensures.conditions limits)
