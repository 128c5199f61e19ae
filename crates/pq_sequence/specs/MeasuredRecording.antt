-- The subject: what is measured of a recording, before it is put in order.
-- Sections are those of IEC 61000-4-30:2015; "profile" marks a choice of this project.
use Rattle.std.specs.Prelude.{ℕ, ℤ, Bool, List, length, map, slice_range}
use Rattle.aggregate.specs.declared.group.Group.{Group}
use Rattle.aggregate.specs.Aggregation.{Basic, short_groups, ten_groups, two_hour_groups}
use Rattle.event_detect.specs.declared.event.Event.{Event}
use Rattle.event_detect.specs.declared.limits.Limits.{Limits}
use Rattle.event_detect.specs.declared.window.Window.{Window}
use Rattle.event_detect.specs.Flag.{is_touched}
use Rattle.fixed_rms.specs.Root.{rms}
use Rattle.freq10s.specs.declared.reading.Reading.{Reading}
use Rattle.freq10s.specs.Frequency.{readings}
use Rattle.half_cycle.specs.HalfCycleWindow.{windows}
use Rattle.polyphase.specs.PolyphaseEvent.{ChannelWindow, all_polyphase_events, merged_windows}
use Rattle.pq_base.specs.Recorded.{Recorded, sample_count, samples_at}
use Rattle.pq_sequence.specs.BasicInterval.{basic_runs, basic_span, begins_segment, cycles_of, fronts}
use Rattle.pq_time.specs.declared.clock.Clock.{Clock}
use Rattle.pq_time.specs.Tick.{tick_place, ticks}
use Rattle.pq_words.specs.Steps.{numbers_below}
use Rattle.ten_twelve.specs.declared.span.Span.{Span}
use Rattle.zero_cross.specs.declared.rule.Rule.{Rule}
use Rattle.zero_cross.specs.Boundary.{rule_of, cycle_boundaries}

-- how far apart the recording's boundaries are (profile)
abbrev pub recorded_rule : Recorded → Rule
recorded_rule r = rule_of r.rate r.lf

-- the cycle boundaries of the reference channel (4.5)
abbrev pub reference_cycles : Recorded → List ℕ
reference_cycles r = cycle_boundaries (samples_at r r.reference) (recorded_rule r)

-- when the samples are taken (profile)
abbrev pub clock_of : Recorded → Clock
clock_of r = record { t0 = r.t0; rate = r.rate }

-- the places of the 10-minute ticks, at which basic intervals begin anew (4.5)
unfoldable pub tick_places : Clock → ℕ → List ℕ
tick_places clock n = map (tick_place clock n) (ticks clock n 600)

-- the places of the recording's own ticks
abbrev pub recorded_places : Recorded → List ℕ
recorded_places r = tick_places (clock_of r) (sample_count r)

-- the basic intervals as runs of cycles between boundaries, the same for all channels (4.5)
abbrev pub runs_of : Recorded → List ℕ → List Span
runs_of r boundaries = basic_runs (cycles_of r.lf) boundaries (recorded_places r)

-- how many channels it has, and their positions
abbrev pub channel_count : Recorded → ℕ
channel_count r = length r.numbers

abbrev pub positions : Recorded → List ℕ
positions r = numbers_below (channel_count r)

-- the half-cycle windows of a channel that has these samples, each on its own crossings (5.4)
abbrev pub channel_windows : Recorded → List ℤ → List Window
channel_windows r samples = windows samples (recorded_rule r)

-- those of all channels, one list a channel
abbrev pub windows_by_channel : Recorded → List (List Window)
windows_by_channel r = map (channel_windows r) r.samples

-- the merged windows of all channels (profile)
abbrev pub recorded_windows : Recorded → List ChannelWindow
recorded_windows r = merged_windows (windows_by_channel r)

-- all dips, swells and interruptions of the recording: those of the whole supply (5.4, 5.5)
abbrev pub recorded_events : Recorded → Limits → List Event
recorded_events r limits =
    all_polyphase_events limits (channel_count r) (sample_count r) (recorded_windows r)

-- the root of the samples of each channel over a span (5.2)
abbrev pub roots_over : Recorded → Span → List ℕ
roots_over r span =
    map (λ position. rms (slice_range (samples_at r position) span.start span.end)) (positions r)

-- the basic interval over a span (5.2): flagged, on all channels alike, where some event of the whole
-- recording, of any kind and channel, touches the span (4.7)
abbrev pub basic_over : Recorded → List Event → Span → Bool → Basic
basic_over r events span front = record {
  front = front;
  part = record {
    start = span.start;
    end = span.end;
    values = roots_over r span;
    flagged = is_touched events span.start span.end;
  };
}

-- the basic intervals over runs of cycles between the reference channel's boundaries, of which those that
-- begin at one of the fronts begin a segment (4.5)
abbrev pub basics_over : Recorded → List Event → List ℕ → List ℕ → List Span → List Basic
basics_over r events boundaries fronts runs =
    map (λ run. basic_over r events (basic_span boundaries run) (begins_segment fronts run)) runs

-- the basic intervals of a recording that has these events and boundaries, in order (4.5)
abbrev pub basics_of : Recorded → List Event → List ℕ → List Basic
basics_of r events boundaries =
    basics_over r events boundaries (fronts boundaries (recorded_places r)) (runs_of r boundaries)

-- what they make: the 150/180-cycle intervals, and the 10-minute ones (4.5)
abbrev pub shorts_of : Recorded → List Basic → List Group
shorts_of r basics = short_groups (channel_count r) basics

abbrev pub tens_of : Recorded → List Basic → List Group
tens_of r basics = ten_groups (clock_of r) (sample_count r) (channel_count r) basics

-- what the 10-minute intervals make: the 2-hour ones (4.5)
abbrev pub two_hours_of : Recorded → List Group → List Group
two_hours_of r tens = two_hour_groups (clock_of r) (sample_count r) (channel_count r) tens

-- the frequency readings, over the reference channel's cycle boundaries (5.1)
abbrev pub readings_of : Recorded → List ℕ → List Reading
readings_of r boundaries = readings (clock_of r) (sample_count r) boundaries
