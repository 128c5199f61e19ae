-- What contracts see of basic intervals and of what they make, as they are measured.
use Rattle.std.specs.Prelude.{◌≡◌, ℕ, Bool, ◌<◌, ◌≤◌, List, [], ◌++◌, length, map, take, slice_index, option_to_list, pos, unwrap_or, Result, IfOk}
use Rattle.std.specs.declared.alloc.Global.{Global}
use Rattle.std.specs.declared.vec.Vec.{Vec}
use Rattle.aggregate.specs.declared.group.Group.{Group}
use Rattle.aggregate.specs.declared.group.Out.{Out}
use Rattle.aggregate.specs.Aggregation.{Basic, short_groups, ten_groups, two_hour_groups}
use Rattle.aggregate.specs.BasicOrder.{AreBasics, IsBasic, basic_of}
use Rattle.event_detect.specs.declared.event.Event.{Event}
use Rattle.pq_base.specs.Recorded.{Recorded, sample_count}
use Rattle.pq_sequence.specs.declared.basics.BasicInterval.{BasicInterval}
use Rattle.pq_items.specs.declared.item.Item.{Item}
use Rattle.pq_items.specs.declared.item.Item.TheVariants as item
use Rattle.pq_sequence.specs.declared.groups.Groups.{Groups}
use Rattle.pq_sequence.specs.declared.items.Length.{Length}
use Rattle.pq_sequence.specs.declared.items.Length.TheVariants.{Short, TenMinutes, TwoHours}
use Rattle.pq_sequence.specs.declared.intervals.RecordedIntervals.{RecordedIntervals}
use Rattle.pq_sequence.specs.declared.touches.Reach.{Reach}
use Rattle.pq_sequence.specs.Lists.{Adds}
use Rattle.pq_sequence.specs.MeasuredRecording.{basic_over, basics_of, basics_over, channel_count, clock_of, readings_of, reference_cycles}
use Rattle.pq_sequence.specs.SequentialResult.{basic_item, basic_items, channel_items, for_each_channel, number_of, reading_items, short_item, ten_item, two_hour_item}
use Rattle.pq_sequence.specs.Touches.{AreReaches, ForEventsOf}
use Rattle.pq_time.specs.declared.clock.Clock.{Clock}
use Rattle.ten_twelve.specs.declared.span.Span.{Span}

-- a basic interval of so many channels, as its aggregation takes it
abbrev pub basic_seen : ℕ → BasicInterval → Basic
basic_seen channels b = basic_of b.front b.span (take channels b.values) b.flagged

abbrev pub basics_seen : ℕ → List BasicInterval → List Basic
basics_seen channels basics = map (basic_seen channels) basics

-- it is a basic interval of the recording
abbrev pub IsMeasured : Recorded → BasicInterval → Type 0
IsMeasured r b = IsBasic (sample_count r) (channel_count r) (basic_seen (channel_count r) b)

-- it is the one over a span, flagged by whatever events have the reaches
abbrev pub IsBasicOver : Recorded → Span → Bool → List Reach → BasicInterval → Type 0
IsBasicOver r span front reaches b = (events : List Event) → AreReaches events reaches →
    basic_seen (channel_count r) b ≡ basic_over r events span front

-- they are those over runs of cycles, flagged by whatever events have the reaches
abbrev pub AreBasicsOver : Recorded → List ℕ → List ℕ → List Reach → List Span → List BasicInterval → Type 0
AreBasicsOver r boundaries fronts reaches runs basics = (events : List Event) → AreReaches events reaches →
    basics_seen (channel_count r) basics ≡ basics_over r events boundaries fronts runs

-- a call that succeeds gives those of the recording, flagged by whatever events have the reaches
abbrev pub GivesBasics : {E : Type 0} → Result (Vec BasicInterval Global) E → Recorded → List ℕ → List Reach →
    Type 0
GivesBasics result r boundaries reaches =
    IfOk result (λ found. (events : List Event) → AreReaches events reaches →
    basics_seen (channel_count r) found.items ≡ basics_of r events boundaries)

-- so of those over runs of cycles
abbrev pub GivesBasicsOver : {E : Type 0} → Result (Vec BasicInterval Global) E → Recorded → List ℕ → List ℕ →
    List Reach → List Span → Type 0
GivesBasicsOver result r boundaries fronts reaches runs =
    IfOk result (λ found. AreBasicsOver r boundaries fronts reaches runs found.items)

-- a measured basic interval as the item of the channel at a position
abbrev pub measured_item : Recorded → BasicInterval → ℕ → Item
measured_item r b position = basic_item r (basic_seen (channel_count r) b).part position

-- and as items, one a channel
abbrev pub items_of_one : Recorded → BasicInterval → List Item
items_of_one r b = channel_items r (basic_item r (basic_seen (channel_count r) b).part)

-- measured basic intervals as items, one a channel of each
abbrev pub measured_items : Recorded → List BasicInterval → List Item
measured_items r basics = basic_items r (basics_seen (channel_count r) basics)

-- the readings of a recording that has the events of these reaches were added
abbrev pub AddsReadings : Recorded → List Reach → Vec Item Global → Vec Item Global → Type 0
AddsReadings r reaches old new =
    ForEventsOf reaches (λ events. Adds old new (reading_items events (readings_of r (reference_cycles r))))

-- the cycles at which runs begin
abbrev pub run_starts : List Span → List ℕ
run_starts runs = map (λ run. run.start) runs

-- of some numbers, those up to an index are below a number
abbrev pub AreBelow : ℕ → List ℕ → ℕ → Type 0
AreBelow n numbers index =
    (index ≤ length numbers) × ((k : ℕ) → k < index → slice_index numbers k < n)

-- the intervals of each length that basic intervals make
pub record AreGroupsOf (clock : Clock) (n channels : ℕ) (basics : List Basic) (groups : Groups) : Type 0 where
  pub short : groups.shorts.items ≡ short_groups channels basics
  pub ten : groups.tens.items ≡ ten_groups clock n channels basics
  pub two : groups.two_hours.items
      ≡ two_hour_groups clock n channels (ten_groups clock n channels basics)

-- the intervals that one basic interval completes were added
pub record AddsOut (old new : Groups) (out : Out) : Type 0 where
  pub short : new.shorts.items ≡ old.shorts.items ++ option_to_list out.short
  pub ten : new.tens.items ≡ old.tens.items ++ option_to_list out.ten
  pub two : new.two_hours.items ≡ old.two_hours.items ++ option_to_list out.two

-- there are none yet
pub record AreEmpty (groups : Groups) : Type 0 where
  pub short : groups.shorts.items ≡ []
  pub ten : groups.tens.items ≡ []
  pub two : groups.two_hours.items ≡ []

-- they are basic intervals of the recording, in order
abbrev pub AreMeasured : Recorded → List BasicInterval → Type 0
AreMeasured r basics =
    AreBasics (clock_of r) (sample_count r) (channel_count r) (basics_seen (channel_count r) basics)

-- the intervals of a recording that has these events
pub record AreIntervals (r : Recorded) (events : List Event) (found : RecordedIntervals) : Type 0 where
  pub basics : basics_seen (channel_count r) found.basics.items ≡ basics_of r events (reference_cycles r)
  pub groups : AreGroupsOf (clock_of r) (sample_count r) (channel_count r)
      (basics_of r events (reference_cycles r)) found.groups

-- an aggregated interval of a length as an item of a channel, with its value
abbrev pub item_of_length : Length → ℕ → Group → ℕ → Item
item_of_length Short number g value = item.Short number g.start g.end value g.flagged
item_of_length TenMinutes number g value =
    item.Ten number (unwrap_or g.tick (pos 0)) g.start g.end g.count value g.flagged
item_of_length TwoHours number g value =
    item.TwoHour number (unwrap_or g.tick (pos 0)) g.start g.end value g.flagged

-- and as that of the channel at a position
abbrev pub group_item : Length → Recorded → Group → ℕ → Item
group_item long r g position = item_of_length long (number_of r position) g (slice_index g.values position)

-- and as items, one a channel
abbrev pub items_of_group : Length → Recorded → Group → List Item
items_of_group long r g = channel_items r (group_item long r g)

-- aggregated intervals of a length as items, one a channel of each
abbrev pub group_items : Length → Recorded → List Group → List Item
group_items long r groups = for_each_channel r (group_item long r) groups

-- intervals of each length as items, one a channel of each
abbrev pub intervals_seen : Recorded → RecordedIntervals → List Item
intervals_seen r found =
    basic_items r (basics_seen (channel_count r) found.basics.items)
    ++ for_each_channel r (short_item r) found.groups.shorts.items
    ++ for_each_channel r (ten_item r) found.groups.tens.items
    ++ for_each_channel r (two_hour_item r) found.groups.two_hours.items
