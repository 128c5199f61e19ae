-- Worked values, so that a wrong rule in the specs does not check.
use Rattle.std.proofs.Common.{◌≡◌, [], ◌∷◌, map, take, drop, replicate, refl, pos}
use Rattle.half_cycle.specs.HalfCycleWindow.{window_between, windows_over, windows}
use Rattle.fixed_rms.specs.Root.{root_in, isqrt, mean_square, rms}
use Rattle.zero_cross.specs.Boundary.{rule_of, first_boundary, next_boundary, boundaries}
use Rattle.pq_words.specs.First.{first_of, first_between}
use Rattle.pq_words.specs.Successors.{successors}
use Rattle.pq_words.specs.Steps.{numbers_from}
use Rattle.pq_words.proofs.WorkedSignal.{sine_count, sampled, halved, replaced}

-- the windows of a sine in 73 samples: each of one cycle, half a cycle after the one before
pub sine_windows : windows (sampled sine_count 32_500 73) (rule_of 1_200_000_000 50)
    ≡ record { start = 24; end = 48; value = 229_805_362 } ∷ record
    { start = 36; end = 60; value = 229_805_362 } ∷ record { start = 48; end = 72; value = 229_805_362 } ∷
    []
unfolding windows windows_over window_between rms mean_square isqrt root_in boundaries successors
    first_boundary next_boundary rule_of first_between first_of sampled sine_count numbers_from
sine_windows = refl

-- one sample less, and the crossing that ends the last of them is not there
pub crossing_without_sample : map (λ w. w.end) (windows (sampled sine_count 32_500 72)
    (rule_of 1_200_000_000 50)) ≡ 48 ∷ 60 ∷ []
unfolding windows windows_over window_between rms mean_square isqrt root_in boundaries successors
    first_boundary next_boundary rule_of first_between first_of sampled sine_count numbers_from
crossing_without_sample = refl

-- with the counts halved from place 264 up to 312, by the windows from place 240 on: half a cycle inside, the
-- whole one, half of it
pub halved_half_cycles : take 7 (drop 18 (windows (sampled
    (replaced 264 312 (λ i. halved (sine_count i)) sine_count) 32_500 361) (rule_of 1_200_000_000 50)))
    ≡ record { start = 240; end = 264; value = 229_805_362 } ∷ record
    { start = 252; end = 276; value = 181_675_064 } ∷ record
    { start = 264; end = 288; value = 114_896_273 }
    ∷ record { start = 276; end = 300; value = 114_896_273 } ∷ record
    { start = 288; end = 312; value = 114_896_273 } ∷ record
    { start = 300; end = 324; value = 181_675_064 }
    ∷ record { start = 312; end = 336; value = 229_805_362 } ∷ []
unfolding windows windows_over window_between rms mean_square isqrt root_in boundaries successors
    first_boundary next_boundary rule_of first_between first_of sampled sine_count numbers_from
halved_half_cycles = refl

-- silence has windows of no voltage, while boundaries follow; fewer than three boundaries have none
pub silent_windows : (windows (replicate 39 (pos 0)) (rule_of 1_200_000_000 50)
    ≡ record { start = 0; end = 24; value = 0 } ∷ [])
    × (windows (replicate 27 (pos 0)) (rule_of 1_200_000_000 50) ≡ []) ×
    (windows [] (rule_of 1_200_000_000 50) ≡ [])
unfolding windows windows_over window_between rms mean_square isqrt root_in boundaries successors
    first_boundary next_boundary rule_of first_between first_of
silent_windows = (refl, refl, refl)
