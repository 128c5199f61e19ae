-- The subject: the laws of what the posted items of the lanes tell. All of it is profile.
use Rattle.std.specs.Prelude.{◌≡◌, ℕ, ◌<◌, ◌≤◌, List, filter, slice_index, take}
use Rattle.event_detect.specs.declared.limits.Limits.{Limits}
use Rattle.lanes.specs.Lane.{IsWithinReaches, is_up_to, lane_count, lane_items, reach, settled}
use Rattle.locality_law.specs.Locality.{IsSameFrame}
use Rattle.pq_base.specs.Recorded.{Recorded, IsRecording, sample_count}
use Rattle.pq_sequence.specs.SequentialResult.{cut, sequential}

-- up to a place within the reach of k posted items of a lane, its items are all among them
abbrev pub PostedSettle : Type 0
PostedSettle = (r : Recorded) (lane k w : ℕ) → IsRecording r → w ≤ reach r lane k →
    settled r lane w ≡ filter (is_up_to w) (take k (lane_items r lane))

-- the first items of each lane, so many by its count, are the same
abbrev pub PostsSame : List ℕ → Recorded → Recorded → Type 0
PostsSame counts a b = (lane : ℕ) → lane < lane_count a →
    take (slice_index counts lane) (lane_items a lane) ≡ take (slice_index counts lane) (lane_items b lane)

-- recordings of one frame with the same posted items have one cut at each place within the reaches of both
abbrev pub PostedCut : Type 0
PostedCut = (a b : Recorded) (limits : Limits) (counts : List ℕ) (w : ℕ) → IsRecording a → IsRecording b →
    IsSameFrame a b → w ≤ sample_count a → IsWithinReaches a counts w → IsWithinReaches b counts w →
    PostsSame counts a b → cut w (sequential a limits) ≡ cut w (sequential b limits)
