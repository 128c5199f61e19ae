-- The subject: how many basic intervals, windows and frequency readings a recording has at most, by its
-- number of samples alone; it is what the room for them is taken by (profile).
-- Sections are those of IEC 61000-4-30:2015; "profile" marks a choice of this project.
use Rattle.std.specs.Prelude.{ℕ, ◌+◌, ◌-◌, ◌*◌, ◌/◌, ◌<◌, ◌≤◌, List, length}
use Rattle.event_detect.specs.declared.event.Event.{Event}
use Rattle.pq_base.specs.Recorded.{Recorded, IsRecording, sample_count, samples_at}
use Rattle.pq_sequence.specs.BasicInterval.{cycles_of}
use Rattle.pq_sequence.specs.MeasuredRecording.{basics_of, channel_count, channel_windows, clock_of, readings_of, recorded_places, recorded_rule, reference_cycles}
use Rattle.pq_time.specs.Tick.{ticks}

-- there are few of each, whatever the samples are
pub record IntervalsAreFew : Type 0 where
  -- basic intervals (5.2): one for as many samples as their cycles have at least, and one more for each
  -- 10-minute tick
  pub basics : (r : Recorded) (events : List Event) → IsRecording r →
      length (basics_of r events (reference_cycles r))
      ≤ sample_count r / (2 * (recorded_rule r).lo * cycles_of r.lf) + length (recorded_places r)
  -- windows of a channel (5.4): one for the least distance of two boundaries
  pub windows : (r : Recorded) (position : ℕ) → IsRecording r → position < channel_count r →
      length (channel_windows r (samples_at r position)) ≤ sample_count r / (recorded_rule r).lo
  -- frequency readings (5.1): one for each 10-second tick but the last
  pub readings : (r : Recorded) →
      length (readings_of r (reference_cycles r)) ≤ length (ticks (clock_of r) (sample_count r) 10) - 1
