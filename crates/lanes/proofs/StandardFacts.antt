-- Worked values, so that a wrong rule in the specs does not check.
use Rattle.std.proofs.Common.{◌≡◌, ◌*◌, ◌^◌, [], ◌∷◌, map, length, refl, pos}
use Rattle.fixed_rms.specs.Root.{root_in, isqrt, mean_of_squares, mean_square, rms}
use Rattle.freq10s.specs.Frequency.{reading_of, readings}
use Rattle.half_cycle.specs.HalfCycleWindow.{window_between, windows_over, windows}
use Rattle.lanes.specs.Lane.{lane_items, lane_key, need, reach}
use Rattle.pq_base.specs.Recorded.{Recorded}
use Rattle.pq_sequence.specs.BasicInterval.{basic_runs, front_of, fronts}
use Rattle.pq_sequence.specs.MeasuredRecording.{tick_places}
use Rattle.pq_time.specs.Tick.{ticks}
use Rattle.pq_time.specs.Time.{place_of, time_of}
use Rattle.pq_words.specs.First.{first_of, first_between}
use Rattle.pq_words.specs.Steps.{numbers_from, steps_from}
use Rattle.pq_words.specs.Successors.{successors}
use Rattle.pq_words.proofs.WorkedSignal.{sine_count, sampled}
use Rattle.ten_twelve.specs.Run.{runs}
use Rattle.zero_cross.specs.Boundary.{rule_of, first_boundary, next_boundary, boundaries, cycle_boundaries}

-- two_intervals: a sine in 552 samples on channel 1, at 1200 Hz and 50 Hz
abbrev recorded : Recorded
recorded = record {
  t0 = pos (1_709_294_401 * 10 ^ 9);
  rate = 1_200_000_000;
  lf = 50;
  numbers = 1 ∷ [];
  reference = 0;
  samples = sampled sine_count 32_500 552 ∷ [];
}

-- the sampler's keys are the ends of two intervals; the detector has 42 windows, the frequency lane nothing
pub known_lanes : (map lane_key (lane_items recorded 0) ≡ 264 ∷ 504 ∷ []) ×
    (map length (map (lane_items recorded) (1 ∷ 2 ∷ 3 ∷ [])) ≡ 42 ∷ 0 ∷ 0 ∷ [])
unfolding lane_items readings reading_of tick_places ticks place_of time_of fronts front_of basic_runs runs
    windows window_between windows_over root_in isqrt mean_of_squares mean_square rms rule_of first_boundary
    next_boundary boundaries cycle_boundaries first_of first_between successors numbers_from steps_from
    sine_count sampled
known_lanes = (refl, refl)

-- the reach after nothing, after one interval and after both; after no, 19, 20 and all 42 windows; and of the
-- frequency lane, which has no item
pub known_reaches : (map (reach recorded 0) (0 ∷ 1 ∷ 2 ∷ []) ≡ 263 ∷ 503 ∷ 552 ∷ [])
    × (map (reach recorded 1) (0 ∷ 19 ∷ 20 ∷ 42 ∷ []) ≡ 24 ∷ 252 ∷ 264 ∷ 552 ∷ []) ×
    (reach recorded 2 0 ≡ 552)
unfolding reach lane_items readings reading_of tick_places ticks place_of time_of fronts front_of basic_runs
    runs windows window_between windows_over root_in isqrt mean_of_squares mean_square rms rule_of
    first_boundary next_boundary boundaries cycle_boundaries first_of first_between successors numbers_from
    steps_from sine_count sampled
known_reaches = (refl, refl, refl)

-- up to place 264 the lanes need one interval, the windows that begin before it, and nothing
pub known_needs : (need recorded 0 264 ≡ 1) × (need recorded 1 264 ≡ 20) × (need recorded 2 264 ≡ 0)
unfolding need lane_items readings reading_of tick_places ticks place_of time_of fronts front_of basic_runs
    runs windows window_between windows_over root_in isqrt mean_of_squares mean_square rms rule_of
    first_boundary next_boundary boundaries cycle_boundaries first_of first_between successors numbers_from
    steps_from sine_count sampled
known_needs = (refl, refl, refl)
