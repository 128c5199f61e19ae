-- The subject: what is known of the result once so many of the lanes' items are merged. All of it is profile.
use Rattle.std.specs.Prelude.{◌≡◌, ℕ, ◌<◌, ◌≤◌, List, ◌++◌, take, drop, flat_map, filter, not, nat_le}
use Rattle.std.specs.List.{AllByRecursion}
use Rattle.aggregate.specs.Aggregation.{Basic}
use Rattle.event_detect.specs.declared.event.Event.{Event}
use Rattle.event_detect.specs.declared.limits.Limits.{Limits}
use Rattle.event_detect.specs.VoltageEvent.{ended_events}
use Rattle.freq10s.specs.declared.reading.Reading.{Reading}
use Rattle.lanes.specs.Lane.{recorded_readings}
use Rattle.polyphase.specs.PolyphaseEvent.{ChannelWindow, conditions, kinds}
use Rattle.pq_base.specs.Recorded.{Recorded}
use Rattle.pq_items.specs.declared.item.Item.{Item}
use Rattle.pq_items.specs.ItemOrder.{item_cmp}
use Rattle.pq_items.specs.ItemTable.{end_of}
use Rattle.pq_sequence.specs.MeasuredRecording.{basics_of, channel_count, recorded_events, recorded_windows, reference_cycles, shorts_of, tens_of, two_hours_of}
use Rattle.pq_sequence.specs.SequentialResult.{basic_items, cut, event_items, for_each_channel, reading_items, sequential, short_item, ten_item, two_hour_item}
use Rattle.pq_words.specs.Sorted.{in_order}

-- so many of the merged windows, of the basic intervals and of the readings
pub record Merged : Type 0 where
  pub windows : ℕ
  pub basics : ℕ
  pub readings : ℕ

-- all basic intervals of the recording, with their flags
abbrev pub all_basics : Recorded → Limits → List Basic
all_basics r limits = basics_of r (recorded_events r limits) (reference_cycles r)

-- the events that some of the merged windows have ended
abbrev pub known_events : Recorded → Limits → List ChannelWindow → List Event
known_events r limits fed =
    flat_map (λ kind. ended_events kind (conditions kind limits (channel_count r) fed)) kinds

-- the items that the first windows, basic intervals and readings make
unfoldable pub known_items : Recorded → Limits → List ChannelWindow → List Basic → List Reading → List Item
known_items r limits fed basics early =
    let tens = tens_of r basics in
    reading_items (recorded_events r limits) early
    ++ basic_items r basics
    ++ for_each_channel r (short_item r) (shorts_of r basics)
    ++ for_each_channel r (ten_item r) tens
    ++ for_each_channel r (two_hour_item r) (two_hours_of r tens)
    ++ event_items r (known_events r limits fed)

-- those of what is merged
abbrev pub known : Recorded → Limits → Merged → List Item
known r limits m =
    known_items r limits (take m.windows (recorded_windows r)) (take m.basics (all_basics r limits))
    (take m.readings (recorded_readings r))

-- what is not merged begins at place w or after it, or ends after it
pub record IsSettled (r : Recorded) (limits : Limits) (m : Merged) (w : ℕ) : Type 0 where
  pub windows : AllByRecursion (λ x. w ≤ x.window.start) (drop m.windows (recorded_windows r))
  pub basics : AllByRecursion (λ b. w < b.part.end) (drop m.basics (all_basics r limits))
  pub readings : AllByRecursion (λ x. w < x.end) (drop m.readings (recorded_readings r))

-- the windows that are merged begin before place w, and the basic intervals and readings that are not end at
-- it or after it
pub record IsAbreast (r : Recorded) (limits : Limits) (m : Merged) (w : ℕ) : Type 0 where
  pub windows : AllByRecursion (λ x. x.window.start < w) (take m.windows (recorded_windows r))
  pub basics : AllByRecursion (λ b. w ≤ b.part.end) (drop m.basics (all_basics r limits))
  pub readings : AllByRecursion (λ x. w ≤ x.end) (drop m.readings (recorded_readings r))

-- the known items that end after the mark
abbrev pub pending_items : Recorded → Limits → Merged → ℕ → List Item
pending_items r limits m mark = filter (λ i. not (nat_le (end_of i) mark)) (known r limits m)

-- a list, put in order, is what is known and ends after the mark
abbrev pub IsPending : Recorded → Limits → Merged → ℕ → List Item → Type 0
IsPending r limits m mark pending =
    in_order item_cmp pending ≡ in_order item_cmp (pending_items r limits m mark)

-- a ledger's lists at a mark below the end: what is released is the cut, and what is pending is what is known
-- and ends later
pub record IsAtMark (r : Recorded) (limits : Limits) (m : Merged) (near mark : ℕ)
    (released pending : List Item) : Type 0 where
  pub settled : IsSettled r limits m mark
  pub abreast : IsAbreast r limits m near
  pub is_cut : released ≡ cut mark (sequential r limits)
  pub is_pending : IsPending r limits m mark pending
