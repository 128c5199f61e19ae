-- The subject: laws of lanes and of how far they are settled; each is the contract of a call of its own.
-- Profile.
use Rattle.std.specs.Prelude.{◌≡◌, ℕ, ◌+◌, ◌≤◌, length, map, filter, take, All, Some, slice_get}
use Rattle.std.specs.List.Sorted.{IsStrictlyIncreasing}
use Rattle.lanes.specs.declared.lane_item.LaneItem.{LaneItem}
use Rattle.lanes.specs.Lane.{is_up_to, lane_items, lane_key, need, reach, settled}
use Rattle.pq_base.specs.Recorded.{Recorded, IsRecording, sample_count}

-- in each lane of a recording the keys rise, from 1 on, and are at most its number of samples
pub record LanesRise : Type 0 where
  pub rising : (r : Recorded) (lane : ℕ) → IsRecording r →
      IsStrictlyIncreasing (map lane_key (lane_items r lane))
  pub within : (r : Recorded) (lane : ℕ) → IsRecording r →
      All (λ i. (1 ≤ lane_key i) × (lane_key i ≤ sample_count r)) (lane_items r lane)

-- the reach of a lane of a recording, by how many items of it are posted
pub record ReachesTell : Type 0 where
  -- it is at most the number of samples, and that where all items are posted
  pub most : (r : Recorded) (lane k : ℕ) → IsRecording r → reach r lane k ≤ sample_count r
  pub done : (r : Recorded) (lane k : ℕ) → length (lane_items r lane) ≤ k → reach r lane k ≡ sample_count r
  -- with more items it is no less
  pub rising : (r : Recorded) (lane j k : ℕ) → IsRecording r → j ≤ k → reach r lane j ≤ reach r lane k
  -- it tells how many they are
  pub tells : (r : Recorded) (lane j k : ℕ) → IsRecording r → j ≤ length (lane_items r lane) →
      k ≤ length (lane_items r lane) → reach r lane j ≡ reach r lane k → j ≡ k
  -- it is one less than the key of the next item
  pub next : (r : Recorded) (lane k : ℕ) (i : LaneItem) → IsRecording r →
      slice_get (lane_items r lane) k ≡ Some i → reach r lane k + 1 ≡ lane_key i
  -- within it, the posted items are all that a place needs
  pub settles : (r : Recorded) (lane k w : ℕ) → IsRecording r → w ≤ reach r lane k →
      settled r lane w ≡ filter (is_up_to w) (take k (lane_items r lane))
  pub needs : (r : Recorded) (lane k w : ℕ) → IsRecording r → w ≤ reach r lane k → need r lane w ≤ k
