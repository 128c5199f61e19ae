use Rattle.std.proofs.Common.{◌≡◌, ◌++◌, List, ◌∙◌, ap}
use Rattle.std.proofs.lemmas.Result.{on_ok_weaker}
use Rattle.aggregate.specs.declared.group.Group.{Group}
use Rattle.pq_items.specs.declared.item.Item.{Item}
use Rattle.pq_sequence.specs.Measured.{basics_seen}
use Rattle.pq_sequence.specs.MeasuredRecording.{channel_count}
use Rattle.pq_sequence.specs.SequentialResult.{basic_items, for_each_channel, short_item, ten_item, two_hour_item}
use Rattle.pq_sequence.proofs.ItemLemmas.{added}
use Rattle.pq_sequence.proofs.intervals.push_intervals.Goals as goal

-- those of four lengths, one after another
pub returns : goal.returns
returns c =
    let r = c.args.recording.now in
    let found = c.args.intervals.now in
    let old = c.args.items.now.items in
    let basics = basic_items r (basics_seen (channel_count r) found.basics.items) in
    let short : List Group → List Item = for_each_channel r (short_item r) in
    let ten : List Group → List Item = for_each_channel r (ten_item r) in
    let two : List Group → List Item = for_each_channel r (two_hour_item r) in
    let first : c.push_basics.new.items.items ≡ old ++ basics = c.in_ok-push_basics.ensures
    ∙ ap (λ bs. old ++ basic_items r (basics_seen (channel_count r) bs)) c.deref.ensures.value in
    let second : c.push_groups.new.items.items ≡ (old ++ basics) ++ short found.groups.shorts.items =
    c.in_ok-push_groups.ensures
    ∙ ap (λ gs. c.push_basics.new.items.items ++ short gs) c.deref-2.ensures.value
    ∙ ap (λ items. items ++ short found.groups.shorts.items) first in
    let third : c.push_groups-2.new.items.items
    ≡ ((old ++ basics) ++ short found.groups.shorts.items) ++ ten found.groups.tens.items =
    c.in_ok-push_groups-2.ensures
    ∙ ap (λ gs. c.push_groups.new.items.items ++ ten gs) c.deref-3.ensures.value
    ∙ ap (λ items. items ++ ten found.groups.tens.items) second in
    on_ok_weaker c.push_groups-3.result
    (λ pushed. pushed
    ∙ ap (λ gs. c.push_groups-2.new.items.items ++ two gs) c.deref-4.ensures.value
    ∙ ap (λ items. items ++ two found.groups.two_hours.items) third
    ∙ added old basics (short found.groups.shorts.items) (ten found.groups.tens.items)
    (two found.groups.two_hours.items))
    c.push_groups-3.ensures
