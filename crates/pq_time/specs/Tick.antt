-- The subject: ticks, the UTC moments at which a clock interval of 10 s, 10 min or 2 h begins (4.4, 4.5,
-- 5.1). Which ticks a recording has is profile.
-- Sections are those of IEC 61000-4-30:2015; "profile" marks a choice of this project.
use Rattle.std.specs.Prelude.{◌≡◌, ◌⊎◌, ◌↔◌, ℕ, ◌*◌, ◌^◌, ◌≤◌, List, ℤ, pos, negsuc, neg_ℤ, ◌+ℤ◌, ◌-ℤ◌, ◌*ℤ◌, ◌≤ℤ◌, Contains}
use Rattle.std.specs.Int.{int_div_euclid, int_rem_euclid}
use Rattle.pq_time.specs.declared.clock.Clock.{Clock}
use Rattle.pq_time.specs.Time.{place_of, time_of}
use Rattle.pq_words.specs.Steps.{steps_from}

-- the periods of ticks, in seconds: of frequency readings (5.1), and of 10-minute and 2-hour intervals (4.4,
-- 4.5)
abbrev pub IsPeriod : ℕ → Type 0
IsPeriod period = (period ≡ 10) ⊎ ((period ≡ 600) ⊎ (period ≡ 7200))

-- a UTC second in nanoseconds
abbrev pub moment_of : ℤ → ℤ
moment_of second = second *ℤ pos (10 ^ 9)

-- the second is a tick of a period in seconds: divisible by it, and from the first sample's moment to that of
-- place n, both included
pub record IsTick (clock : Clock) (n period : ℕ) (second : ℤ) : Type 0 where
  pub divisible : int_rem_euclid second (pos period) ≡ pos 0
  pub not_before : clock.t0 ≤ℤ (moment_of second)
  pub not_after : (moment_of second) ≤ℤ (time_of clock n)

-- the list has the ticks of a period and nothing else
abbrev pub HasTicks : Clock → ℕ → ℕ → List ℤ → Type 0
HasTicks clock n period seconds = (second : ℤ) → Contains seconds second ↔ IsTick clock n period second

-- the place of a tick, a UTC second, among n samples (profile)
abbrev pub tick_place : Clock → ℕ → ℤ → ℕ
tick_place clock n second = place_of clock (moment_of second) n

-- z, or 0 where it is negative
abbrev pub at_least_zero : ℤ → ℕ
at_least_zero (pos k) = k
at_least_zero (negsuc k) = 0

-- the last whole number of periods at or before a moment, and the first one at or after it
abbrev pub last_period : ℤ → ℕ → ℤ
last_period moment period = int_div_euclid moment (pos (period * 10 ^ 9))

abbrev pub first_period : ℤ → ℕ → ℤ
first_period moment period = neg_ℤ (last_period (neg_ℤ moment) period)

-- how many whole numbers there are from one to another, both included
abbrev pub count_between : ℤ → ℤ → ℕ
count_between first last = at_least_zero ((last -ℤ first) +ℤ pos 1)

-- the seconds of whole periods, from so many periods to so many, both included
abbrev pub seconds_between : ℤ → ℤ → ℕ → List ℤ
seconds_between first last period = steps_from (first *ℤ pos period) period (count_between first last)

-- the ticks of a period, as UTC seconds in rising order
unfoldable pub ticks : Clock → ℕ → ℕ → List ℤ
ticks clock n period =
    seconds_between (first_period clock.t0 period) (last_period (time_of clock n) period) period

-- the ticks that are left, by the first of them, their number and their period: at most two hours apart, and
-- at most 10^14 seconds from 1970
abbrev pub AreLeft : ℤ → ℕ → ℕ → Type 0
AreLeft next left period = (period ≤ 7200) × (neg_ℤ (pos (10 ^ 14)) ≤ℤ next) ×
    ((next +ℤ pos (left * period)) ≤ℤ pos (10 ^ 14))
