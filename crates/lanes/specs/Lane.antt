-- The subject: lanes, in which what is measured of a recording is posted, item by item. All of it is profile.
-- Sections are those of IEC 61000-4-30:2015; "profile" marks a choice of this project.
use Rattle.std.specs.Prelude.{ℕ, ℤ, Bool, ◌+◌, ◌-◌, ◌*◌, ◌/◌, ◌%◌, ◌==◌, ◌<◌, ◌≤◌, nat_le, nat_lt, List, [], map, filter, count_by, slice_get, slice_index, slice_range, if◌then◌else◌}
use Rattle.std.specs.Option.{option_map_or}
use Rattle.event_detect.specs.declared.window.Window.{Window}
use Rattle.fixed_rms.specs.Root.{rms}
use Rattle.freq10s.specs.declared.reading.Reading.{Reading}
use Rattle.lanes.specs.declared.lane_item.LaneItem.{LaneItem}
use Rattle.lanes.specs.declared.lane_item.LaneItem.TheVariants as item
use Rattle.pq_base.specs.Recorded.{Recorded, sample_count, samples_at}
use Rattle.pq_sequence.specs.BasicInterval.{basic_span}
use Rattle.pq_sequence.specs.MeasuredRecording.{channel_count, channel_windows, readings_of, reference_cycles, runs_of}
use Rattle.ten_twelve.specs.declared.span.Span.{Span}

-- how many lanes there are: a sampler and a detector for each channel, and one for frequency
abbrev pub lane_count : Recorded → ℕ
lane_count r = 2 * channel_count r + 1

-- the key of an item: the end of a value or a reading, and one more than the start of a window, which so is
-- settled once it begins
abbrev pub lane_key : LaneItem → ℕ
lane_key (item.Value start end value) = end
lane_key (item.Window window) = window.start + 1
lane_key (item.Reading reading) = reading.end

-- the basic value over a span (5.2)
abbrev pub value_over : List ℤ → Span → LaneItem
value_over samples span =
    item.Value span.start span.end (rms (slice_range samples span.start span.end))

-- the basic value of the channel at a position over a run of the reference channel's cycles
abbrev pub value_of : Recorded → ℕ → Span → LaneItem
value_of r position run = value_over (samples_at r position) (basic_span (reference_cycles r) run)

-- the runs of cycles that make the recording's basic intervals (4.5)
abbrev pub recorded_runs : Recorded → List Span
recorded_runs r = runs_of r (reference_cycles r)

-- the windows of the channel at a position (5.4)
abbrev pub windows_at : Recorded → ℕ → List Window
windows_at r position = channel_windows r (samples_at r position)

-- the frequency readings of the recording (5.1)
abbrev pub recorded_readings : Recorded → List Reading
recorded_readings r = readings_of r (reference_cycles r)

-- the items of the sampler of the channel at a position: its basic values
abbrev pub sampler_items : Recorded → ℕ → List LaneItem
sampler_items r position = map (value_of r position) (recorded_runs r)

-- the items of its detector: its windows
abbrev pub detector_items : Recorded → ℕ → List LaneItem
detector_items r position = map item.Window (windows_at r position)

-- the items of the frequency lane: the readings
abbrev pub frequency_items : Recorded → List LaneItem
frequency_items r = map item.Reading (recorded_readings r)

-- the items of a lane, in rising order of key: lane 2c is the sampler of the channel at position c, lane
-- 2c + 1 its detector, and the last one the frequency lane
unfoldable pub lane_items : Recorded → ℕ → List LaneItem
lane_items r lane =
    if nat_lt lane (2 * channel_count r)
    then (if lane % 2 == 0 then sampler_items r (lane / 2) else detector_items r (lane / 2))
    else (if lane == 2 * channel_count r then frequency_items r else [])

-- an item has a key of at most w
abbrev pub is_up_to : ℕ → LaneItem → Bool
is_up_to w i = nat_le (lane_key i) w

-- how many of a lane's keys are at most w
unfoldable pub need : Recorded → ℕ → ℕ → ℕ
need r lane w = count_by (is_up_to w) (lane_items r lane)

-- how far a lane is settled of which k items are posted: the next item's key less one, or the number of
-- samples where there are only k
unfoldable pub reach : Recorded → ℕ → ℕ → ℕ
reach r lane k = option_map_or (λ i. lane_key i - 1) (slice_get (lane_items r lane) k) (sample_count r)

-- the items of a lane that have a key of at most w
abbrev pub settled : Recorded → ℕ → ℕ → List LaneItem
settled r lane w = filter (is_up_to w) (lane_items r lane)

-- place w is at most the reach of each lane, by how many items are posted of each
abbrev pub IsWithinReaches : Recorded → List ℕ → ℕ → Type 0
IsWithinReaches r counts w =
    (lane : ℕ) → lane < lane_count r → w ≤ reach r lane (slice_index counts lane)
