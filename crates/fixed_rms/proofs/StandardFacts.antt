-- Worked values, so that a wrong rule in the specs does not check.
use Rattle.std.proofs.Common.{◌≡◌, ℤ, List, [], ◌∷◌, ◌-◌, ◌^◌, replicate, map, pos, neg_ℤ, refl}
use Rattle.fixed_rms.specs.Root.{root_in, isqrt, root_mean, mean_of_squares, mean_square, rms}
use Rattle.pq_words.proofs.WorkedSignal.{sine_count, square_count, sampled}
use Rattle.pq_words.specs.Steps.{numbers_from}

-- the greatest root below a square, at it, and of the largest argument that a mean square has
pub known_roots : map isqrt (0 ∷ 1 ∷ 3 ∷ 4 ∷ 99 ∷ 100 ∷ (10 ^ 26 - 1) ∷ (10 ^ 26) ∷ [])
    ≡ 0 ∷ 1 ∷ 1 ∷ 2 ∷ 9 ∷ 10 ∷ 9_999_999_999_999 ∷ 10_000_000_000_000 ∷ []
unfolding isqrt root_in
known_roots = refl

-- a cycle of a sine of 10,000 counts has the mean square 49,998,111; at 0.0325 V a count its root is
-- 229.805362 V
pub sine_root : (mean_square (sampled sine_count 1 24) ≡ 49_998_111) ×
    (rms (sampled sine_count 32_500 24) ≡ 229_805_362)
unfolding mean_square rms isqrt root_in sampled sine_count numbers_from
sine_root = (refl, refl)

-- a square of 7000 counts at 0.0325 V has the root 227.5 V
pub square_root : rms (sampled (square_count 24 0 7000) 32_500 24) ≡ 227_500_000
unfolding rms mean_square isqrt root_in sampled square_count numbers_from
square_root = refl

-- fifteen basic values, one of them lower
pub fifteen_root : root_mean (229_805_362 ∷ 211_869_380 ∷ replicate 13 229_805_362) ≡ 228_653_405
unfolding root_mean mean_of_squares isqrt root_in
fifteen_root = refl

-- squares that sum to 35 and to 36
abbrev thirty_five : List ℤ
thirty_five = pos 5 ∷ neg_ℤ (pos 3) ∷ pos 1 ∷ pos 0 ∷ []

abbrev thirty_six : List ℤ
thirty_six = pos 5 ∷ neg_ℤ (pos 3) ∷ pos 1 ∷ neg_ℤ (pos 1) ∷ []

-- a mean of eight and three quarters is 8, and two thirds are 0
pub mean_squares_round_down : map mean_square
    (thirty_five ∷ thirty_six ∷ (pos 1 ∷ pos 1 ∷ pos 0 ∷ []) ∷ (pos 1 ∷ pos 1 ∷ pos 1 ∷ []) ∷ [])
    ≡ 8 ∷ 9 ∷ 0 ∷ 1 ∷ []
unfolding mean_square
mean_squares_round_down = refl

-- so their roots are 2 and 0, and that of 9 is 3
pub roots_round_down : map rms (thirty_five ∷ thirty_six ∷ (pos 1 ∷ pos 1 ∷ pos 0 ∷ []) ∷ []) ≡ 2 ∷ 3 ∷ 0 ∷ []
unfolding rms mean_square isqrt root_in
roots_round_down = refl

-- the same of values that are roots
pub means_of_squares_round_down :
    (map mean_of_squares ((5 ∷ 3 ∷ 1 ∷ 0 ∷ []) ∷ (5 ∷ 3 ∷ 1 ∷ 1 ∷ []) ∷ []) ≡ 8 ∷ 9 ∷ [])
    × (map root_mean ((5 ∷ 3 ∷ 1 ∷ 0 ∷ []) ∷ (5 ∷ 3 ∷ 1 ∷ 1 ∷ []) ∷ (1 ∷ 1 ∷ 0 ∷ []) ∷ []) ≡ 2 ∷ 3 ∷ 0 ∷ [])
unfolding root_mean mean_of_squares isqrt root_in
means_of_squares_round_down = (refl, refl)
