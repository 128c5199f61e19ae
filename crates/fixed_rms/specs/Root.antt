-- The subject: the root of the mean square, the r.m.s. value (IEC 61000-4-30:2015, 4.5 and 5.2). Whole
-- microvolts and rounding down are profile.
use Rattle.std.specs.Prelude.{ℕ, zero, suc, ◌+◌, ◌*◌, ◌/◌, ◌<◌, ◌≤◌, nat_le, List, length, sum_by, ℤ, All, unsigned_abs, if◌then◌else◌}
use Rattle.pq_words.specs.declared.limits.TheConstants.{MOST_SAMPLES, MOST_MICROVOLTS}

-- r is the greatest number whose square is at most x (profile)
pub record IsGreatestRoot (x r : ℕ) : Type 0 where
  pub square : r * r ≤ x
  pub next : x < (r + 1) * (r + 1)

-- that number, of an x below 4 ^ n: twice the root of a quarter of x, and one more where the square of that
-- still fits
unfoldable pub root_in : ℕ → ℕ → ℕ
root_in zero x = 0
root_in (suc n) x =
    let even = 2 * root_in n (x / 4) in
    if nat_le ((even + 1) * (even + 1)) x then even + 1 else even

-- the greatest number whose square is at most x, of an x below 2 ^ 128 (profile)
unfoldable pub isqrt : ℕ → ℕ
isqrt x = root_in 64 x

abbrev pub square : ℕ → ℕ
square n = n * n

-- the sum of the squares of samples in microvolts, in square microvolts
abbrev pub sum_of_squares : List ℤ → ℕ
sum_of_squares samples = sum_by (λ sample. square (unsigned_abs sample)) samples

-- the mean of the squares of samples in microvolts, rounded down
unfoldable pub mean_square : List ℤ → ℕ
mean_square samples = sum_of_squares samples / length samples

-- the root of the mean square of samples, in microvolts (5.2)
unfoldable pub rms : List ℤ → ℕ
rms samples = isqrt (mean_square samples)

-- values in microvolts that are roots themselves: at most so many, each at most so large (profile)
pub record AreRoots (values : List ℕ) : Type 0 where
  pub short : length values ≤ MOST_SAMPLES
  pub quiet : All (λ value. value ≤ MOST_MICROVOLTS) values

-- the mean of the squares of such values, rounded down
unfoldable pub mean_of_squares : List ℕ → ℕ
mean_of_squares values = sum_by square values / length values

-- the root of that mean, in microvolts (aggregation, 4.5)
unfoldable pub root_mean : List ℕ → ℕ
root_mean values = isqrt (mean_of_squares values)
