-- The subject: what is left to merge, by what is posted of the lanes. All of it is profile.
use Rattle.std.specs.Prelude.{◌≡◌, ◌⊎◌, ℕ, ◌+◌, ◌*◌, ◌<◌, ◌≤◌, List, drop, map, Some, slice_get, slice_index}
use Rattle.aggregate.specs.Aggregation.{Basic}
use Rattle.event_detect.specs.declared.limits.Limits.{Limits}
use Rattle.event_detect.specs.declared.window.Window.{Window}
use Rattle.freq10s.specs.declared.reading.Reading.{Reading}
use Rattle.interval_ledger.specs.Merged.{all_basics}
use Rattle.lanes.specs.Lane.{reach, recorded_readings, windows_at}
use Rattle.polyphase.specs.PolyphaseEvent.{merged_windows}
use Rattle.pq_base.specs.Recorded.{Recorded}
use Rattle.pq_sequence.specs.MeasuredRecording.{channel_count, positions, recorded_windows}

-- the windows of each channel that are left, by how many of them are merged
abbrev pub windows_left : Recorded → (ℕ → ℕ) → List (List Window)
windows_left r next = map (λ c. drop (next c) (windows_at r c)) (positions r)

-- of the merged windows so many are merged: what is left is the merge of what is left of the channels
abbrev pub IsLeft : Recorded → ℕ → (ℕ → ℕ) → Type 0
IsLeft r m next = drop m (recorded_windows r) ≡ merged_windows (windows_left r next)

-- the windows of a channel past the first k begin at place w or after it: the reach of k posted ones says so,
-- or the next one
abbrev pub WindowsWait : Recorded → ℕ → ℕ → ℕ → Type 0
WindowsWait r c k w =
    (w ≤ reach r (2 * c + 1) k) ⊎ ((x : Window) × (slice_get (windows_at r c) k ≡ Some x) × (w ≤ x.start))

-- the basic intervals past the first k end after place w: the reach of a sampler says so, or the next one
abbrev pub BasicsWait : Recorded → Limits → ℕ → ℕ → Type 0
BasicsWait r limits k w =
    ((c : ℕ) × (c < channel_count r) × (w ≤ reach r (2 * c) k))
    ⊎ ((b : Basic) × (slice_get (all_basics r limits) k ≡ Some b) × (w < b.part.end))

-- the readings past the first k end after place w: the reach of the frequency lane says so, or the next one
abbrev pub ReadingsWait : Recorded → ℕ → ℕ → Type 0
ReadingsWait r k w =
    (w ≤ reach r (2 * channel_count r) k)
    ⊎ ((x : Reading) × (slice_get (recorded_readings r) k ≡ Some x) × (w < x.end))

-- the first start of channel k: that of its first window left, if that is posted; or none lies below place w
abbrev pub IsFirstStart : Recorded → (ℕ → ℕ) → ℕ → List ℕ → ℕ → Type 0
IsFirstStart r next w starts k =
    ((x : Window) × (slice_get (windows_at r k) (next k) ≡ Some x) × (slice_index starts k ≡ x.start))
    ⊎ ((w ≤ reach r (2 * k + 1) (next k)) × (w ≤ slice_index starts k))
