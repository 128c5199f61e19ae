-- Worked values, so that a wrong rule in the specs does not check.
use Rattle.std.proofs.Common.{◌≡◌, ℕ, [], ◌∷◌, ◌++◌, refl, pos}
use Rattle.std.specs.Fmt.{digits}
use Rattle.std.specs.Prelude.{codes}
use Rattle.aggregate.specs.Aggregation.{short_groups, ten_groups, two_hour_groups}
use Rattle.freq10s.specs.Frequency.{readings}
use Rattle.event_detect.specs.Flag.{is_touched}
use Rattle.event_detect.specs.Threshold.{class_of, limits_of}
use Rattle.event_detect.specs.declared.limits.Settings.{Settings}
use Rattle.event_detect.specs.VoltageEvent.{event_from, event_over, events, extents}
use Rattle.fixed_rms.specs.Root.{isqrt, mean_square, rms, root_in}
use Rattle.half_cycle.specs.HalfCycleWindow.{window_between, windows, windows_over}
use Rattle.jiff_core.specs.Calendar.{days_of_months}
use Rattle.pq_base.specs.Recorded.{Recorded}
use Rattle.pq_report.specs.ReportText.{header, item_row}
use Rattle.pq_run.specs.Measuring.{report_text}
use Rattle.pq_sequence.specs.BasicInterval.{basic_runs, front_of, fronts}
use Rattle.polyphase.specs.PolyphaseEvent.{all_polyphase_events, begins, conditions, ends, latest, merged_windows}
use Rattle.pq_sequence.specs.MeasuredRecording.{tick_places}
use Rattle.pq_sequence.specs.SequentialResult.{items_under, sequential}
use Rattle.pq_time.specs.Printed.{date_shown, printed_moment}
use Rattle.pq_time.specs.Tick.{ticks}
use Rattle.pq_time.specs.Time.{place_of, time_of}
use Rattle.pq_words.proofs.WorkedSignal.{sampled, sine_count}
use Rattle.pq_words.specs.First.{first_between, first_of}
use Rattle.pq_words.specs.Sorted.{in_order, put_in_order}
use Rattle.pq_words.specs.Steps.{numbers_from, steps_from}
use Rattle.pq_words.specs.Successors.{successors}
use Rattle.ten_twelve.specs.Run.{runs}
use Rattle.zero_cross.specs.Boundary.{boundaries, cycle_boundaries, first_boundary, next_boundary, rule_of}

-- ---- the report

-- a declared voltage in millivolts, and the usual thresholds and hysteresis
abbrev usual_settings : ℕ → Settings
usual_settings udin_mv = record {
  udin_mv = udin_mv;
  dip = 900;
  swell = 1100;
  interruption = 50;
  hysteresis = 20;
}

abbrev recorded : Recorded
recorded = record {
  t0 = pos 1709294401000000000;
  rate = 1200000000;
  lf = 50;
  numbers = 1 ∷ [];
  reference = 0;
  samples = sampled sine_count 32_500 552 ∷ [];
}

-- two_intervals, to the byte
pub two_intervals : report_text recorded (limits_of (usual_settings 230000))
    ≡ codes "kind,channel,start,end,from,to,tick,value,count,mark\n"
    ++ (codes "basic,1,24,264,"
    ++ (codes "2024-03-01T12:00:01.020000000Z,2024-03-01T12:00:01.220000000Z,,229805362,10,clear\n"
    ++ (codes "basic,1,264,504,"
    ++ codes "2024-03-01T12:00:01.220000000Z,2024-03-01T12:00:01.420000000Z,,229805362,10,clear\n")))
unfolding report_text header item_row time_of printed_moment date_shown days_of_months sequential in_order
    put_in_order items_under readings short_groups ten_groups two_hour_groups all_polyphase_events
    merged_windows conditions begins ends latest events extents
    event_from event_over successors windows windows_over window_between
    class_of limits_of tick_places ticks place_of fronts front_of basic_runs runs is_touched cycle_boundaries
    boundaries first_boundary next_boundary rule_of first_between first_of sampled sine_count numbers_from
    steps_from rms mean_square isqrt root_in digits
two_intervals = refl
