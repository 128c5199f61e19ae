-- The subject: what is known of the lanes of a recording and of its result: reaches, keys and ends.
use Rattle.std.specs.Prelude.{◌≡◌, ℕ, ◌≤◌, List, length, take, drop, slice_get, Some}
use Rattle.event_detect.specs.declared.limits.Limits.{Limits}
use Rattle.lanes.specs.declared.lane_item.LaneItem.{LaneItem}
use Rattle.lanes.specs.Lane.{lane_items, lane_key, reach}
use Rattle.pq_base.specs.Recorded.{Recorded, sample_count}
use Rattle.pq_items.specs.declared.item.Item.{Item}
use Rattle.pq_items.specs.ItemTable.{end_of}
use Rattle.pq_sequence.specs.SequentialResult.{sequential}

-- the next items of a lane of which so many are posted: 64 and the one after them, or all that are left
abbrev pub next_items : Recorded → ℕ → ℕ → List LaneItem
next_items r lane count = take 65 (drop count (lane_items r lane))

-- it holds of every recording (profile)
pub record HasBounds (r : Recorded) (limits : Limits) : Type 0 where
  -- a reach is at most the number of samples, is no less with more items posted, and tells how many they are
  pub most : (lane k : ℕ) → reach r lane k ≤ sample_count r
  pub rises : (lane j k : ℕ) → j ≤ k → reach r lane j ≤ reach r lane k
  pub tells : (lane j k : ℕ) → j ≤ length (lane_items r lane) → k ≤ length (lane_items r lane) →
      reach r lane j ≡ reach r lane k → j ≡ k
  -- a key is at least 1 and at most the number of samples, and no lane has more items than there are samples
  pub keys : (lane k : ℕ) (i : LaneItem) → slice_get (lane_items r lane) k ≡ Some i →
      (1 ≤ lane_key i) × (lane_key i ≤ sample_count r)
  pub few : (lane : ℕ) → length (lane_items r lane) ≤ sample_count r
  -- an item of the result ends by the number of samples
  pub ended : (k : ℕ) (x : Item) → slice_get (sequential r limits) k ≡ Some x → end_of x ≤ sample_count r
