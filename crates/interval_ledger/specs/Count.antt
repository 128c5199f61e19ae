-- What contracts see of how many items of each lane are posted, of the room for them, and of a post. Profile.
use Rattle.std.specs.Prelude.{◌≡◌, ℕ, ◌/◌, ◌<◌, ◌≤◌, List, [], ◌∷◌, length, Some, slice_get, slice_set}
use Rattle.freq10s.specs.declared.reading.Reading.{Reading}
use Rattle.interval_ledger.specs.Channel.{ChannelView, with_value, with_window}
use Rattle.interval_ledger.specs.Queue.{Queued, with_item}
use Rattle.lanes.specs.declared.lane_item.LaneItem.{LaneItem}
use Rattle.lanes.specs.declared.lane_item.LaneItem.TheVariants as item
use Rattle.lanes.specs.Lane.{recorded_readings, sampler_items, windows_at}
use Rattle.pq_base.specs.Recorded.{Recorded}

-- how many items of each lane are posted, of the sampler and the detector of each channel and, last, of the
-- frequency lane
abbrev pub counts_of : List ChannelView → List Reading → List ℕ
counts_of [] readings = length readings ∷ []
counts_of (c ∷ cs) readings =
    length c.values.items ∷ length c.windows.items ∷ counts_of cs readings

-- there is room for every item of every lane
pub record HasRoom (r : Recorded) (channels : List ChannelView) (readings : Queued Reading) : Type 0 where
  pub values : (position : ℕ) (c : ChannelView) → slice_get channels position ≡ Some c →
      length (sampler_items r position) ≤ c.values.room
  pub windows : (position : ℕ) (c : ChannelView) → slice_get channels position ≡ Some c →
      length (windows_at r position) ≤ c.windows.room
  pub frequency : length (recorded_readings r) ≤ readings.room

-- there is room for a value, or for a window, of the channel at a position
abbrev pub HasPlaceForValue : List ChannelView → ℕ → Type 0
HasPlaceForValue channels position =
    (c : ChannelView) × (slice_get channels position ≡ Some c) × (length c.values.items < c.values.room)

abbrev pub HasPlaceForWindow : List ChannelView → ℕ → Type 0
HasPlaceForWindow channels position =
    (c : ChannelView) × (slice_get channels position ≡ Some c) × (length c.windows.items < c.windows.room)

-- there is room for the item of a lane, in the queue that the item belongs to
abbrev pub HasPlace : List ChannelView → Queued Reading → ℕ → LaneItem → Type 0
HasPlace channels readings lane (item.Value start end value) = HasPlaceForValue channels (lane / 2)
HasPlace channels readings lane (item.Window window) = HasPlaceForWindow channels (lane / 2)
HasPlace channels readings lane (item.Reading reading) = length readings.items < readings.room

-- a channel of these is another one now
abbrev pub SetsChannel : List ChannelView → List ChannelView → ℕ → (ChannelView → ChannelView) → Type 0
SetsChannel old new position f = (c : ChannelView) → slice_get old position ≡ Some c →
    new ≡ slice_set old position (f c)

-- the item stands last in the queue that it belongs to, and all else is the same
abbrev pub PutsItem : ℕ → LaneItem → List ChannelView → Queued Reading → List ChannelView → Queued Reading →
    Type 0
PutsItem lane (item.Value start end value) old readings new more =
    SetsChannel old new (lane / 2) (λ c. with_value c (record { start = start; end = end; value = value }))
    × (more ≡ readings)
PutsItem lane (item.Window window) old readings new more =
    SetsChannel old new (lane / 2) (λ c. with_window c window) × (more ≡ readings)
PutsItem lane (item.Reading reading) old readings new more =
    (new ≡ old) × (more ≡ with_item readings reading)
