-- The subject: the moments of samples and the places of moments. All of it is profile.
use Rattle.std.specs.Prelude.{◌≡◌, ℕ, ◌+◌, ◌*◌, ◌/◌, ◌^◌, ◌<◌, ◌≤◌, Bool, IsTrue, ℤ, pos, ◌+ℤ◌, int_le, unwrap_or}
use Rattle.pq_time.specs.declared.clock.Clock.{Clock}
use Rattle.pq_words.specs.declared.limits.TheConstants.{LEAST_RATE, MOST_NANOSECONDS, MOST_RATE}
use Rattle.pq_words.specs.First.{first_between}
use Rattle.pq_words.specs.Magnitude.{IsWithin}

-- a clock that calls take: it begins so near 1970 (from 1716 to 2223), at so many microhertz
pub record IsClock (clock : Clock) : Type 0 where
  pub t0 : IsWithin MOST_NANOSECONDS clock.t0
  pub slowest : LEAST_RATE ≤ clock.rate
  pub fastest : clock.rate ≤ MOST_RATE

-- the moment of the sample at a place, in nanoseconds since 1970; the rate is in microhertz
unfoldable pub time_of : Clock → ℕ → ℤ
time_of clock i = clock.t0 +ℤ pos (i * 10 ^ 15 / clock.rate)

-- whether the sample at a place is taken at the moment or after it
abbrev pub is_taken_by : Clock → ℤ → ℕ → Bool
is_taken_by clock moment i = int_le moment (time_of clock i)

-- the place of a moment: the first of the n places whose sample is taken at the moment or after it, or n
unfoldable pub place_of : Clock → ℤ → ℕ → ℕ
place_of clock moment n = unwrap_or (first_between (is_taken_by clock moment) 0 n) n

-- sample times do not fall, so a place is told by its neighbour: where it is taken at the moment or after it,
-- and the one before it is not, it is the moment's place
abbrev pub TellsPlaces : Type 0
TellsPlaces = (clock : Clock) (moment : ℤ) (n k : ℕ) → k + 1 < n →
    ¬ IsTrue (is_taken_by clock moment k) → IsTrue (is_taken_by clock moment (k + 1)) →
    place_of clock moment n ≡ k + 1
