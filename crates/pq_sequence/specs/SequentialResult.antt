-- The subject: the sequential result of a recording: all its items, in order.
-- Sections are those of IEC 61000-4-30:2015; "profile" marks a choice of this project.
use Rattle.std.specs.Prelude.{ℕ, nat_le, List, ◌++◌, map, flat_map, filter, pos, slice_get, slice_index, unwrap_or}
use Rattle.std.specs.Option.{option_map_or}
use Rattle.aggregate.specs.declared.group.Group.{Group}
use Rattle.aggregate.specs.Aggregation.{Basic, Part, parts_of}
use Rattle.freq10s.specs.declared.reading.Reading.{Reading}
use Rattle.pq_base.specs.Recorded.{Recorded}
use Rattle.pq_items.specs.declared.item.Item.{Item}
use Rattle.pq_items.specs.declared.item.Item.TheVariants as item
use Rattle.pq_items.specs.ItemOrder.{item_cmp}
use Rattle.pq_items.specs.ItemTable.{end_of}
use Rattle.event_detect.specs.declared.event.Event.{Event}
use Rattle.event_detect.specs.declared.kind.Kind.{Kind}
use Rattle.event_detect.specs.declared.kind.Kind.TheVariants.{Dip, Swell, Interruption}
use Rattle.event_detect.specs.declared.limits.Limits.{Limits}
use Rattle.event_detect.specs.Flag.{is_touched}
use Rattle.pq_sequence.specs.BasicInterval.{cycles_of}
use Rattle.pq_sequence.specs.MeasuredRecording.{basics_of, positions, readings_of, recorded_events, reference_cycles, shorts_of, tens_of, two_hours_of}
use Rattle.pq_words.specs.Sorted.{in_order}

-- the number of the channel at a position
abbrev pub number_of : Recorded → ℕ → ℕ
number_of r position = slice_index r.numbers position

-- a reading as an item, flagged where some event touches its span (4.7; for frequency: profile)
abbrev pub reading_item : List Event → Reading → Item
reading_item events g =
    item.Frequency g.tick g.start g.end g.cycles g.microhertz (is_touched events g.start g.end)

-- an interval as the item of the channel at a position
abbrev pub basic_item : Recorded → Part → ℕ → Item
basic_item r part position =
    item.Basic (number_of r position) part.start part.end (cycles_of r.lf) (slice_index part.values position)
    part.flagged

abbrev pub short_item : Recorded → Group → ℕ → Item
short_item r g position =
    item.Short (number_of r position) g.start g.end (slice_index g.values position) g.flagged

abbrev pub ten_item : Recorded → Group → ℕ → Item
ten_item r g position =
    item.Ten (number_of r position) (unwrap_or g.tick (pos 0)) g.start g.end g.count
    (slice_index g.values position) g.flagged

abbrev pub two_hour_item : Recorded → Group → ℕ → Item
two_hour_item r g position =
    item.TwoHour (number_of r position) (unwrap_or g.tick (pos 0)) g.start g.end
    (slice_index g.values position) g.flagged

-- readings as items
abbrev pub reading_items : List Event → List Reading → List Item
reading_items events readings = map (reading_item events) readings

-- an interval as items, one a channel
abbrev pub channel_items : Recorded → (ℕ → Item) → List Item
channel_items r item_at = map item_at (positions r)

-- intervals as items, one a channel of each
abbrev pub for_each_channel : {X : Type 0} → Recorded → (X → ℕ → Item) → List X → List Item
for_each_channel r item_of intervals = flat_map (λ interval. channel_items r (item_of interval)) intervals

-- basic intervals as items
abbrev pub basic_items : Recorded → List Basic → List Item
basic_items r basics = for_each_channel r (basic_item r) (parts_of basics)

-- the event of a kind, with the number of its channel
abbrev pub item_of_kind : Kind → ℕ → Event → Item
item_of_kind Dip number e = item.Dip number e.start e.end e.value e.is_open
item_of_kind Swell number e = item.Swell number e.start e.end e.value e.is_open
item_of_kind Interruption number e = item.Interruption number e.start e.end e.value e.is_open

-- an event as an item
abbrev pub event_item : Recorded → Event → Item
event_item r e = item_of_kind e.kind (number_of r e.channel) e

-- events as items
abbrev pub event_items : Recorded → List Event → List Item
event_items r events = map (event_item r) events

-- the readings, the intervals of each length and channel, and the events, of a recording that has these
-- readings, basic intervals and events
abbrev pub items_over : Recorded → List Event → List Reading → List Basic → List Item
items_over r events readings basics =
    let tens = tens_of r basics in
    reading_items events readings
    ++ basic_items r basics
    ++ for_each_channel r (short_item r) (shorts_of r basics)
    ++ for_each_channel r (ten_item r) tens
    ++ for_each_channel r (two_hour_item r) (two_hours_of r tens)
    ++ event_items r events

-- all items of a recording that has these events, kind by kind
unfoldable pub items_under : Recorded → List Event → List Item
items_under r events =
    let boundaries = reference_cycles r in
    items_over r events (readings_of r boundaries) (basics_of r events boundaries)

-- all items of a recording under the limits
abbrev pub all_items : Recorded → Limits → List Item
all_items r limits = items_under r (recorded_events r limits)

-- the sequential result: all items in order, by end, rank of the kind, start and channel (profile)
unfoldable pub sequential : Recorded → Limits → List Item
sequential r limits = in_order item_cmp (all_items r limits)

-- those of a list that end by place w
unfoldable pub cut : ℕ → List Item → List Item
cut w items = filter (λ i. nat_le (end_of i) w) items

-- the end of the item at position k, and n past the last
abbrev pub end_at : List Item → ℕ → ℕ → ℕ
end_at items n k = option_map_or end_of (slice_get items k) n
