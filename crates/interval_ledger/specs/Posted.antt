-- What contracts see of what is posted: of each lane its first items. All of it is profile.
use Rattle.std.specs.Prelude.{◌≡◌, ℕ, ◌+◌, ◌*◌, ◌≤◌, List, length, map, take, Option, Some, slice_get}
use Rattle.std.specs.Option.{option_map_or}
use Rattle.freq10s.specs.declared.reading.Reading.{Reading}
use Rattle.interval_ledger.specs.declared.channel.SpanValue.{SpanValue}
use Rattle.interval_ledger.specs.declared.next_due.Due.{Due}
use Rattle.interval_ledger.specs.declared.next_due.Due.TheVariants as due
use Rattle.interval_ledger.specs.Channel.{ChannelView}
use Rattle.interval_ledger.specs.NextDue.{value_at}
use Rattle.lanes.specs.declared.lane_item.LaneItem.{LaneItem}
use Rattle.lanes.specs.declared.lane_item.LaneItem.TheVariants as item
use Rattle.lanes.specs.Lane.{reach, recorded_readings, sampler_items, windows_at}
use Rattle.pq_base.specs.Recorded.{Recorded}
use Rattle.pq_sequence.specs.MeasuredRecording.{channel_count}
use Rattle.pq_words.specs.Steps.{numbers_below}

-- a posted value as an item of its lane
abbrev pub value_item : SpanValue → LaneItem
value_item v = item.Value v.start v.end v.value

-- some elements are the first of a list
abbrev pub AreFirst : {X : Type 0} → List X → List X → Type 0
AreFirst some all = some ≡ take (length some) all

-- what the sampler and the detector of the channel at a position have posted
pub record IsPostedOf (r : Recorded) (position : ℕ) (c : ChannelView) : Type 0 where
  pub values : AreFirst (map value_item c.values.items) (sampler_items r position)
  pub windows : AreFirst c.windows.items (windows_at r position)

-- what all lanes have
pub record ArePosted (r : Recorded) (channels : List ChannelView) (readings : List Reading) : Type 0 where
  pub many : length channels ≡ channel_count r
  pub each : (position : ℕ) (c : ChannelView) → slice_get channels position ≡ Some c →
      IsPostedOf r position c
  pub frequency : AreFirst readings (recorded_readings r)

-- place w is within the reach of each lane
pub record AreWithinReach (r : Recorded) (channels : List ChannelView) (readings : List Reading) (w : ℕ) :
    Type 0 where
  pub samplers : (position : ℕ) (c : ChannelView) → slice_get channels position ≡ Some c →
      w ≤ reach r (2 * position) (length c.values.items)
  pub detectors : (position : ℕ) (c : ChannelView) → slice_get channels position ≡ Some c →
      w ≤ reach r (2 * position + 1) (length c.windows.items)
  pub frequency : w ≤ reach r (2 * channel_count r) (length readings)

-- how many windows of the channel at a position are merged
abbrev pub merged_of : List ChannelView → ℕ → ℕ
merged_of channels position = option_map_or (λ c. c.merged) (slice_get channels position) 0

-- the root that the channel at a position has posted at an index
abbrev pub root_at : List ChannelView → ℕ → ℕ → ℕ
root_at channels k position = option_map_or (λ v. v.value) (value_at channels k position) 0

-- what each channel has, by position
abbrev pub all_roots : List ChannelView → ℕ → List ℕ
all_roots channels k = map (root_at channels k) (numbers_below (length channels))

-- where a basic interval or a reading ends
abbrev pub end_of_due : Due → ℕ
end_of_due (due.Basic first) = first.end
end_of_due (due.Reading reading) = reading.end

-- where what is next due ends, or w where nothing is
abbrev pub due_end : ℕ → Option Due → ℕ
due_end w found = option_map_or end_of_due found w
