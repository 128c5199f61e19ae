-- Worked recordings with their whole results, so that a wrong rule in the specs does not check.
use Rattle.std.proofs.Common.{◌≡◌, ◌*◌, ◌^◌, ℕ, ℤ, List, [], ◌∷◌, map, replicate, true, false, refl, pos, neg_ℤ, ◌+ℤ◌, ◌*ℤ◌}
use Rattle.aggregate.specs.Aggregation.{group_of, segment_of, short_groups, ten_group, ten_groups, two_hour_group, two_hour_groups}
use Rattle.freq10s.specs.Frequency.{reading_of, readings}
use Rattle.pq_base.specs.Recorded.{Recorded}
use Rattle.event_detect.specs.declared.limits.Limits.{Limits}
use Rattle.event_detect.specs.Threshold.{limits_of, class_of}
use Rattle.event_detect.specs.Flag.{is_touched}
use Rattle.event_detect.specs.VoltageEvent.{event_from, extents, event_over, events}
use Rattle.pq_items.specs.declared.item.Item.{Item}
use Rattle.pq_items.specs.declared.item.Item.TheVariants as item
use Rattle.pq_items.specs.ItemTable.{end_of}
use Rattle.pq_sequence.specs.BasicInterval.{basic_runs, front_of, fronts}
use Rattle.polyphase.specs.PolyphaseEvent.{all_polyphase_events, begins, conditions, ends, latest, merged_windows}
use Rattle.pq_sequence.specs.MeasuredRecording.{clock_of, tick_places}
use Rattle.pq_sequence.specs.SequentialResult.{items_under, sequential, cut, end_at}
use Rattle.pq_sequence.specs.Touches.{is_reached}
use Rattle.pq_sequence.specs.declared.touches.Reach.{Reach}
use Rattle.pq_time.specs.Tick.{ticks}
use Rattle.pq_time.specs.Time.{place_of, time_of}
use Rattle.ten_twelve.specs.Run.{marked, runs}
use Rattle.half_cycle.specs.HalfCycleWindow.{window_between, windows_over, windows}
use Rattle.fixed_rms.specs.Root.{root_in, isqrt, mean_of_squares, mean_square, rms, root_mean}
use Rattle.zero_cross.specs.Boundary.{rule_of, first_boundary, next_boundary, boundaries, cycle_boundaries}
use Rattle.pq_words.specs.First.{first_of, first_between}
use Rattle.pq_words.specs.Successors.{successors}
use Rattle.pq_words.specs.Sorted.{put_in_order, in_order}
use Rattle.pq_words.specs.Steps.{numbers_from, steps_from}
use Rattle.pq_words.proofs.WorkedSignal.{sine_count, square_count, replaced, sampled, halved}

-- 230 V with the usual thresholds: dip 900, swell 1100, interruption 50 and hysteresis 20 thousandths
abbrev usual : Limits
usual = limits_of (record { udin_mv = 230_000; dip = 900; swell = 1100; interruption = 50; hysteresis = 20 })

-- channel 1 at 1200 Hz and 50 Hz, from so many milliseconds after noon of 1 March 2024
abbrev from_noon : ℤ → List ℤ → Recorded
from_noon milliseconds samples =
    record {
      t0 = (pos (1_709_294_400 * 10 ^ 3) +ℤ milliseconds) *ℤ pos (10 ^ 6);
      rate = 1_200_000_000;
      lf =
          50;
      numbers = 1 ∷ [];
      reference = 0;
      samples = samples ∷ [];
    }

-- from a second after noon
abbrev recorded : List ℤ → Recorded
recorded samples = from_noon (pos 1000) samples

-- what a result computes by
unfoldable computed : Recorded → Limits → List Item
unfolding sequential items_under readings reading_of short_groups ten_groups ten_group segment_of
    two_hour_groups two_hour_group group_of marked root_mean mean_of_squares
    all_polyphase_events merged_windows conditions begins ends latest limits_of
    class_of is_touched event_from extents event_over events
    tick_places ticks place_of time_of fronts front_of basic_runs runs windows window_between windows_over
    root_in isqrt mean_square rms rule_of first_boundary next_boundary boundaries cycle_boundaries first_of
    first_between successors put_in_order in_order numbers_from steps_from sine_count sampled square_count
computed r limits = sequential r limits

-- a sine in 552 samples has two basic intervals, and no event
pub two_intervals : sequential (recorded (sampled sine_count 32_500 552)) usual
    ≡ item.Basic 1 24 264 10 229_805_362 false ∷ item.Basic 1 264 504 10 229_805_362 false ∷ []
unfolding computed
two_intervals = refl

-- noon is at place 594, and its front at 600: the interval over it is completed, and overlaps the first one
-- after it
pub interval_over_tick : sequential (from_noon (neg_ℤ (pos 495)) (sampled sine_count 32_500 1200)) usual
    ≡ item.Basic 1 24 264 10 229_805_362 false ∷ item.Basic 1 264 504 10 229_805_362 false ∷ item.Basic 1 504
    744 10 229_805_362 false
    ∷ item.Basic 1 600 840 10 229_805_362 false ∷ item.Basic 1 840 1080 10 229_805_362 false ∷ []
unfolding computed
interval_over_tick = refl

-- noon before the first boundary, before the last boundary, which no cycle follows, or at the end of the
-- recording, interrupts no interval
pub ticks_at_the_edges : (sequential (from_noon (neg_ℤ (pos 10)) (sampled sine_count 32_500 552)) usual
    ≡ item.Basic 1 24 264 10 229_805_362 false ∷ item.Basic 1 264 504 10 229_805_362 false ∷ [])
    × (sequential (from_noon (neg_ℤ (pos 430)) (sampled sine_count 32_500 552)) usual
    ≡ item.Basic 1 24 264 10 229_805_362 false ∷ item.Basic 1 264 504 10 229_805_362 false ∷ [])
    × (sequential (from_noon (neg_ℤ (pos 460)) (sampled sine_count 32_500 552)) usual
    ≡ item.Basic 1 24 264 10 229_805_362 false ∷ item.Basic 1 264 504 10 229_805_362 false ∷ [])
unfolding computed
ticks_at_the_edges = (refl, refl, refl)

-- noon at the start of a recording with no sample, in a recording, at its end, and not at all
pub known_places : (tick_places (record { t0 = pos (1_709_294_400 * 10 ^ 9); rate = 800_000_000 }) 0 ≡ 0 ∷ [])
    × (tick_places (clock_of (from_noon (neg_ℤ (pos 495)) [])) 1200 ≡ 594 ∷ []) ×
    (tick_places (clock_of (from_noon (neg_ℤ (pos 460)) [])) 552 ≡ 552 ∷ [])
    × (tick_places (clock_of (from_noon (pos 1000) [])) 552 ≡ [])
unfolding computed
known_places = (refl, refl, refl, refl)

-- places before the first boundary, at one, between two, twice between two, before the last, and after it
pub known_fronts : map (fronts (10 ∷ 20 ∷ 30 ∷ []))
    ((5 ∷ []) ∷ (20 ∷ []) ∷ (15 ∷ []) ∷ (15 ∷ 18 ∷ []) ∷ (12 ∷ 25 ∷ []) ∷ (31 ∷ []) ∷ [])
    ≡ (0 ∷ []) ∷ (0 ∷ 1 ∷ []) ∷ (0 ∷ 1 ∷ []) ∷ (0 ∷ 1 ∷ []) ∷ (0 ∷ 1 ∷ 2 ∷ []) ∷ (0 ∷ []) ∷ []
unfolding fronts front_of first_between first_of
known_fronts = refl

-- a run of two over a front is completed; a front with no cycle after it begins none; with no boundary there
-- is none
pub known_runs : (basic_runs 2 (0 ∷ 10 ∷ 20 ∷ 30 ∷ 40 ∷ 50 ∷ []) (25 ∷ [])
    ≡ record { start = 0; end = 2 } ∷ record { start = 2; end = 4 } ∷ record { start = 3; end = 5 } ∷ [])
    × (basic_runs 2 (0 ∷ 10 ∷ 20 ∷ 30 ∷ []) (25 ∷ []) ≡ record { start = 0; end = 2 } ∷ []) ×
    (basic_runs 2 [] (25 ∷ []) ≡ [])
unfolding basic_runs runs fronts front_of first_between first_of numbers_from
known_runs = (refl, refl, refl)

-- the crossing at place 504 counts only where it has a sample
pub crossing_without_sample : (sequential (recorded (sampled sine_count 32_500 504)) usual
    ≡ item.Basic 1 24 264 10 229_805_362 false ∷ [])
    × (sequential (recorded (sampled sine_count 32_500 505)) usual
    ≡ item.Basic 1 24 264 10 229_805_362 false ∷ item.Basic 1 264 504 10 229_805_362 false ∷ [])
unfolding computed
crossing_without_sample = (refl, refl)

-- no samples, no items
pub empty_recording : sequential (recorded []) usual ≡ []
unfolding computed
empty_recording = refl

abbrev halved_items : List Item
halved_items = item.Basic 1 24 264 10 229_805_362 true ∷ item.Dip 1 252 336 114_896_273 false ∷ item.Basic 1
    264 504 10 211_869_380 true ∷ []

-- a dip over two basic intervals flags both, also the one that was measured before it ended
pub halved_half_cycles : sequential (recorded (sampled
    (replaced 264 312 (λ i. halved (sine_count i)) sine_count) 32_500 552)) usual ≡ halved_items
unfolding computed
halved_half_cycles = refl

-- the square of 11,500 counts at 0.02 V, with one cycle of other counts and others again after it
abbrev stepped : ℕ → ℕ → List ℤ
stepped low after = sampled (replaced 264 288 (square_count 24 0 low)
    (replaced 288 552 (square_count 24 0 after) (square_count 24 0 11_500))) 20_000 552

-- no dip at the threshold itself; one below it, until a value is the threshold and the hysteresis
pub threshold_edges : (sequential (recorded (stepped 10_350 11_500)) usual
    ≡ item.Basic 1 24 264 10 230_000_000 false ∷ item.Basic 1 264 504 10 227_804_521 false ∷ [])
    × (sequential (recorded (stepped 10_349 10_580)) usual
    ≡ item.Basic 1 24 264 10 230_000_000 false ∷ item.Dip 1 264 312 206_980_000 false ∷ item.Basic 1 264 504
    10 211_142_549 true ∷ [])
unfolding computed
threshold_edges = (refl, refl)

-- the same on the other side: no swell at the threshold; one above it, until a value is the threshold less
-- the hysteresis
pub swell_edges : (sequential (recorded (stepped 12_650 11_500)) usual
    ≡ item.Basic 1 24 264 10 230_000_000 false ∷ item.Basic 1 264 504 10 232_402_452 false ∷ [])
    × (sequential (recorded (stepped 12_651 12_420)) usual
    ≡ item.Basic 1 24 264 10 230_000_000 false ∷ item.Swell 1 264 312 253_020_000 false ∷ item.Basic 1 264 504
    10 248_865_859 true ∷ [])
unfolding computed
swell_edges = (refl, refl)

-- the cut at place 335 ends before the dip that ends at 336; the ends are the items' own, and then the end of
-- the recording
pub halved_cut : (map end_of (cut 335 halved_items) ≡ 264 ∷ []) ×
    (map end_of (cut 336 halved_items) ≡ 264 ∷ 336 ∷ []) ×
    (map (end_at halved_items 552) (0 ∷ 1 ∷ 2 ∷ 3 ∷ []) ≡ 264 ∷ 336 ∷ 504 ∷ 552 ∷ [])
unfolding cut
halved_cut = (refl, refl, refl)

-- no crossings: intervals of silence, all flagged by a dip and an interruption that are open at the end
pub all_zero : sequential (recorded (replicate 1200 (pos 0))) usual
    ≡ item.Basic 1 0 240 10 0 true ∷ item.Basic 1 240 480 10 0 true ∷ item.Basic 1 480 720 10 0 true ∷
    item.Basic 1 720 960 10 0 true
    ∷ item.Dip 1 0 1200 0 true ∷ item.Interruption 1 0 1200 0 true ∷ []
unfolding computed
all_zero = refl

-- ---- several channels

-- channels 1, 2 and so on at 1200 Hz and 50 Hz, the first one the reference, from a second after noon
abbrev channels_of : List ℕ → List (List ℤ) → Recorded
channels_of numbers samples = record (recorded []) { numbers = numbers; samples = samples }

-- the second channel lies between the dip threshold and the hysteresis above it, and so holds the dip of the
-- first one to the end of the recording; alone it would have none
pub second_channel_in_hysteresis : sequential (channels_of (1 ∷ 2 ∷ [])
    (sampled (replaced 264 312 (λ i. halved (sine_count i)) sine_count) 32_500 552
    ∷ sampled sine_count 29_600 552 ∷ [])) usual
    ≡ item.Basic 1 24 264 10 229_805_362 true ∷ item.Basic 2 24 264 10 209_299_653 true
    ∷ item.Basic 1 264 504 10 211_869_380 true ∷ item.Basic 2 264 504 10 209_299_653 true
    ∷ item.Dip 1 252 552 114_896_273 true ∷ []
unfolding computed
second_channel_in_hysteresis = refl

-- two squares whose low windows meet where windows are merged by start: one dip, on the channel of its first
-- window
pub merged_by_start : sequential (channels_of (1 ∷ 2 ∷ [])
    (sampled (replaced 252 276 (square_count 24 0 6000) (square_count 24 0 7000)) 32_500 552
    ∷ sampled (replaced 244 264 (square_count 20 4 6000) (square_count 20 4 7000)) 32_500 552 ∷ [])) usual
    ≡ item.Basic 1 24 264 10 225_986_033 true ∷ item.Basic 2 24 264 10 224_971_062 true
    ∷ item.Dip 2 244 288 195_000_000 false
    ∷ item.Basic 1 264 504 10 225_986_033 true ∷ item.Basic 2 264 504 10 227_500_000 true ∷ []
unfolding computed
merged_by_start = refl

-- a square that is low from place a to place b
abbrev low_between : ℕ → ℕ → List ℤ
low_between a b = sampled (replaced a b (square_count 24 0 300) (square_count 24 0 7000)) 32_500 552

-- an interruption only while all three channels are low, and a dip while one is; both flag all three
pub three_channel_interruption : sequential (channels_of (1 ∷ 2 ∷ 3 ∷ [])
    (low_between 120 240 ∷ low_between 132 240 ∷ low_between 144 216 ∷ [])) usual
    ≡ item.Interruption 3 144 228 9_750_000 false
    ∷ item.Basic 1 24 264 10 161_014_459 true ∷ item.Basic 2 24 264 10 168_845_241 true
    ∷ item.Basic 3 24 264 10 190_415_056 true
    ∷ item.Dip 1 108 264 9_750_000 false
    ∷ item.Basic 1 264 504 10 227_500_000 false ∷ item.Basic 2 264 504 10 227_500_000 false
    ∷ item.Basic 3 264 504 10 227_500_000 false ∷ []
unfolding computed
three_channel_interruption = refl

-- ---- at 60 Hz: twelve cycles of 24 samples at 1440 Hz make 288

-- channel 1 at 1440 Hz and 60 Hz, from so many milliseconds after noon of 1 March 2024
abbrev sixty_from_noon : ℤ → List ℤ → Recorded
sixty_from_noon milliseconds samples =
    let r = from_noon milliseconds samples in record r { rate = 1_440_000_000; lf = 60 }

-- the crossing at place 600, which ends the second interval, counts only where it has a sample
pub sixty_hertz : (sequential (sixty_from_noon (pos 1000) (sampled sine_count 32_500 600)) usual
    ≡ item.Basic 1 24 312 12 229_805_362 false ∷ [])
    × (sequential (sixty_from_noon (pos 1000) (sampled sine_count 32_500 601)) usual
    ≡ item.Basic 1 24 312 12 229_805_362 false ∷ item.Basic 1 312 600 12 229_805_362 false ∷ [])
unfolding computed
sixty_hertz = (refl, refl)

-- noon is at place 713, since 0.495 s are 712.8 samples, and its front at 720
pub sixty_hertz_over_tick : (tick_places (clock_of (sixty_from_noon (neg_ℤ (pos 495)) [])) 1440 ≡ 713 ∷ [])
    × (sequential (sixty_from_noon (neg_ℤ (pos 495)) (sampled sine_count 32_500 1440)) usual
    ≡ item.Basic 1 24 312 12 229_805_362 false ∷ item.Basic 1 312 600 12 229_805_362 false
    ∷ item.Basic 1 600 888 12 229_805_362 false ∷ item.Basic 1 720 1008 12 229_805_362 false
    ∷ item.Basic 1 1008 1296 12 229_805_362 false ∷ [])
unfolding computed
sixty_hertz_over_tick = (refl, refl)

-- a dip over the seam of two intervals flags both, also the second, whose own samples are whole
pub sixty_hertz_dip : sequential (sixty_from_noon (pos 1000) (sampled
    (replaced 264 312 (λ i. halved (sine_count i)) sine_count) 32_500 648)) usual
    ≡ item.Basic 1 24 312 12 214_962_662 true ∷ item.Dip 1 252 336 114_896_273 false
    ∷ item.Basic 1 312 600 12 229_805_362 true ∷ []
unfolding computed
sixty_hertz_dip = refl

-- without crossings intervals are twelve cycles of 24 samples from place 0 on
pub sixty_hertz_silence : sequential (sixty_from_noon (pos 1000) (replicate 960 (pos 0))) usual
    ≡ item.Basic 1 0 288 12 0 true ∷ item.Basic 1 288 576 12 0 true ∷ item.Basic 1 576 864 12 0 true
    ∷ item.Dip 1 0 960 0 true ∷ item.Interruption 1 0 960 0 true ∷ []
unfolding computed
sixty_hertz_silence = refl

-- a long event from place 100 to 2000, and a short one that begins at 400
abbrev long_and_short : List Reach
long_and_short = record { start = 100; furthest = 2000 } ∷ record { start = 400; furthest = 2000 } ∷ []

-- spans past the short one are still reached by the long one; spans that only meet it are not
pub long_over_short : (is_reached long_and_short 420 480 ≡ true) ×
    (is_reached long_and_short 1999 2239 ≡ true) × (is_reached long_and_short 2000 2240 ≡ false) ×
    (is_reached long_and_short 0 100 ≡ false)
long_over_short = (refl, refl, refl, refl)
