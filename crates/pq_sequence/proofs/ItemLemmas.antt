-- Items, one a channel of each interval.
use Rattle.std.proofs.Common.{◌≡◌, ℕ, ◌+◌, List, [], ◌∷◌, ◌++◌, map, refl, sym, ◌∙◌, ap, append_assoc}
use Rattle.std.specs.List.{flat_map}
use Rattle.aggregate.specs.declared.group.Group.{Group}
use Rattle.event_detect.specs.declared.event.Event.{Event}
use Rattle.pq_base.specs.Recorded.{Recorded}
use Rattle.pq_items.specs.declared.item.Item.{Item}
use Rattle.pq_sequence.specs.declared.basics.BasicInterval.{BasicInterval}
use Rattle.pq_sequence.specs.declared.intervals.RecordedIntervals.{RecordedIntervals}
use Rattle.pq_sequence.specs.Measured.{AreIntervals, basic_seen, basics_seen, intervals_seen}
use Rattle.pq_sequence.specs.MeasuredRecording.{basics_of, channel_count, reference_cycles, shorts_of, tens_of, two_hours_of}
use Rattle.pq_sequence.specs.SequentialResult.{basic_item, basic_items, channel_items, for_each_channel, short_item, ten_item, two_hour_item}
use Rattle.pq_words.specs.Steps.{numbers_below, numbers_from}
use Rattle.pq_words.proofs.StepLaws.{map_below_push}

-- the items of the first channels
abbrev pub first_items : (ℕ → Item) → ℕ → List Item
first_items item_at n = map item_at (numbers_below n)

pub items_none : (item_at : ℕ → Item) → first_items item_at 0 ≡ []
unfolding numbers_from
items_none item_at = refl

-- one channel more
pub items_more : (item_at : ℕ → Item) (n : ℕ) (before now after : List Item) →
    now ≡ before ++ first_items item_at n → after ≡ now ++ item_at n ∷ [] →
    after ≡ before ++ first_items item_at (n + 1)
items_more item_at n before now after so_far pushed =
    let here = item_at n in
    pushed
    ∙ ap (λ items. items ++ here ∷ []) so_far
    ∙ append_assoc before (first_items item_at n) (here ∷ [])
    ∙ ap (λ items. before ++ items) (sym (map_below_push item_at n))

-- a basic interval as items, one a channel
abbrev pub items_of_basic : Recorded → BasicInterval → List Item
items_of_basic r b = channel_items r (basic_item r (basic_seen (channel_count r) b).part)

-- those of all are the items of each
pub items_of_basics : (r : Recorded) (basics : List BasicInterval) → flat_map (items_of_basic r) basics
    ≡ basic_items r (basics_seen (channel_count r) basics)
items_of_basics r [] = refl
items_of_basics r (b ∷ bs) = ap (λ items. items_of_basic r b ++ items) (items_of_basics r bs)

-- ---- kind by kind

-- intervals of each length, as items
pub seen_intervals : (r : Recorded) (events : List Event) (found : RecordedIntervals) →
    AreIntervals r events found →
    intervals_seen r found
    ≡ (let basics = basics_of r events (reference_cycles r) in
    let tens = tens_of r basics in
    basic_items r basics
    ++ for_each_channel r (short_item r) (shorts_of r basics)
    ++ for_each_channel r (ten_item r) tens
    ++ for_each_channel r (two_hour_item r) (two_hours_of r tens))
seen_intervals r events found are =
    let basics = basics_of r events (reference_cycles r) in
    let short : List Group → List Item = for_each_channel r (short_item r) in
    let ten : List Group → List Item = for_each_channel r (ten_item r) in
    let two : List Group → List Item = for_each_channel r (two_hour_item r) in
    ap (λ bs. basic_items r bs ++ short found.groups.shorts.items ++ ten found.groups.tens.items
    ++ two found.groups.two_hours.items) are.basics
    ∙ ap (λ gs. basic_items r basics ++ short gs ++ ten found.groups.tens.items
    ++ two found.groups.two_hours.items) are.groups.short
    ∙ ap (λ gs. basic_items r basics ++ short (shorts_of r basics) ++ ten gs
    ++ two found.groups.two_hours.items) are.groups.ten
    ∙ ap (λ gs. basic_items r basics ++ short (shorts_of r basics) ++ ten (tens_of r basics) ++ two gs)
    are.groups.two

-- items of six kinds, added in three steps
pub joined : (readings basics shorts tens two_hours events : List Item) →
    (([] ++ readings) ++ (basics ++ shorts ++ tens ++ two_hours)) ++ events
    ≡ readings ++ basics ++ shorts ++ tens ++ two_hours ++ events
joined readings basics shorts tens two_hours events = simp append_assoc

-- intervals of four lengths, added one after another
pub added : (old basics shorts tens two_hours : List Item) →
    (((old ++ basics) ++ shorts) ++ tens) ++ two_hours ≡ old ++ (basics ++ shorts ++ tens ++ two_hours)
added old basics shorts tens two_hours = simp append_assoc
