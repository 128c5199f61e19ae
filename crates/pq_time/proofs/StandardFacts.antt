-- Worked values, so that a wrong rule in the specs does not check.
use Rattle.std.proofs.Common.{◌≡◌, ◌*◌, ◌^◌, ◌-◌, ◌+ℤ◌, ◌*ℤ◌, ℕ, ℤ, [], ◌∷◌, map, true, false, Some, None, Ok, Err, refl, pos, negsuc, neg_ℤ, arith, lit<}
use Rattle.std.proofs.lemmas.Int.{ints}
use Rattle.std.specs.Prelude.{codes, is_some}
use Rattle.jiff_core.specs.Calendar.{days_from_civil, day_count, days_of_years, days_of_months}
use Rattle.pq_time.specs.declared.bad_moment.BadMoment.TheVariants as bad
use Rattle.pq_time.specs.declared.clock.Clock.{Clock}
use Rattle.pq_time.specs.Moment.{written_moment, utc_of, written_of}
use Rattle.pq_time.specs.Printed.{date_shown, printed_moment}
use Rattle.pq_time.specs.Tick.{ticks, moment_of}
use Rattle.pq_time.specs.Time.{IsClock, time_of, place_of}
use Rattle.pq_time.specs.Written as written
use Rattle.pq_time.proofs.PlaceLaws.{place_by_neighbour}
use Rattle.pq_words.specs.First.{first_of, first_between}
use Rattle.pq_words.specs.Steps.{steps_from}

-- ---- what is written

-- leap days, years and the forms of a date
pub dates : map (λ t. is_some (written.date_of t))
    (codes "01/03/2024" ∷ codes "1/3/2024" ∷ codes "29/02/2024" ∷ codes "29/02/2000" ∷ codes "31/12/2199" ∷
    codes "01/01/1900" ∷ [])
    ≡ true ∷ true ∷ true ∷ true ∷ true ∷ true ∷ []
unfolding written.date_of
dates = refl

pub no_dates : map (λ t. is_some (written.date_of t))
    (codes "29/02/2023" ∷ codes "30/02/2024" ∷ codes "29/02/2100" ∷ codes "31/12/1899" ∷ codes "01/01/2200" ∷
    codes "01/13/2024" ∷ codes "00/01/2024" ∷ codes "01/03/24" ∷ codes "2024-03-01" ∷ codes "01/03/2024/" ∷
    [])
    ≡ false ∷ false ∷ false ∷ false ∷ false ∷ false ∷ false ∷ false ∷ false ∷ false ∷ []
unfolding written.date_of
no_dates = refl

-- hours, minutes and seconds, with a fraction or without
pub times : map (λ t. is_some (written.clock_time_of t))
    (codes "12:00:01.000000" ∷ codes "1:2:3" ∷ codes "23:59:59.123456789" ∷ codes "24:00:00" ∷ codes
    "12:60:00" ∷ codes "12:00:60" ∷ codes "12:00:01." ∷ codes "12:00" ∷ codes "12:00:01.1234567890" ∷ codes
    "12:00:01.1.1" ∷ [])
    ≡ true ∷ true ∷ true ∷ false ∷ false ∷ false ∷ false ∷ false ∷ false ∷ false ∷ []
unfolding written.clock_time_of
times = refl

-- the sign holds for hours and minutes together
pub time_codes : map written.code_of (codes "-5h30" ∷ codes "0" ∷ codes "+14h59" ∷ codes "14" ∷ codes "15" ∷
    codes "5h3" ∷ codes "5h60" ∷ codes "+-5" ∷ codes "x" ∷ [] ∷ [])
    ≡ Some (neg_ℤ (pos 330)) ∷ Some (pos 0) ∷ Some (pos 899) ∷ Some (pos 840) ∷ None ∷ None ∷ None ∷ None ∷
    None ∷ None ∷ []
unfolding written.code_of written.minutes_of
time_codes = refl

-- one second after noon of 1 March 2024, and moments before 1970; five digits of a fraction are tens of
-- microseconds
pub written_moments : (written_moment (codes "01/03/2024") (codes "12:00:01.000000")
    ≡ Ok (pos 1_709_294_401_000_000_000))
    × (written_moment (codes "31/12/1969") (codes "23:59:59.99999") ≡ Ok (neg_ℤ (pos 10_000)))
    × (written_moment (codes "1/1/1970") (codes "0:0:0") ≡ Ok (pos 0))
unfolding written_moment written.date_of written.clock_time_of days_from_civil day_count days_of_years
    days_of_months
written_moments = (refl, refl, refl)

-- the date is judged first
pub bad_moments : (written_moment (codes "30/02/2024") (codes "24:00:00") ≡ Err bad.Date) ×
    (written_moment (codes "01/03/2024") (codes "24:00:00") ≡ Err bad.Time)
unfolding written_moment written.date_of written.clock_time_of
bad_moments = (refl, refl)

-- noon at an offset of -5:30 is 17:30 in UTC, and is noon again at that offset
pub offsets : (utc_of (pos 0) (neg_ℤ (pos 330)) ≡ pos 19_800_000_000_000) ×
    (written_of (pos 19_800_000_000_000) (neg_ℤ (pos 330)) ≡ pos 0)
offsets = (refl, refl)

-- ---- what is printed

pub printed : (printed_moment (pos 1_709_294_400_000_834_028) ≡ codes "2024-03-01T12:00:00.000834028Z")
    × (printed_moment (negsuc 0) ≡ codes "1969-12-31T23:59:59.999999999Z")
    × (printed_moment (neg_ℤ (pos (2 ^ 63))) ≡ codes "1677-09-21T00:12:43.145224192Z")
    × (printed_moment (pos (2 ^ 63 - 1)) ≡ codes "2262-04-11T23:47:16.854775807Z")
unfolding printed_moment date_shown first_between first_of days_of_months
printed = (refl, refl, refl, refl)

-- the calendar has no 29 February in 1900 and 2100, and one in 2000; a year ends after its last nanosecond
pub printed_at_ends : (printed_moment (neg_ℤ (pos 2_203_891_200_000_000_001))
    ≡ codes "1900-02-28T23:59:59.999999999Z")
    × (printed_moment (neg_ℤ (pos 2_203_891_200_000_000_000)) ≡ codes "1900-03-01T00:00:00.000000000Z")
    × (printed_moment (pos 951_782_400_000_000_000) ≡ codes "2000-02-29T00:00:00.000000000Z")
    × (printed_moment (pos 4_107_542_399_999_999_999) ≡ codes "2100-02-28T23:59:59.999999999Z")
    × (printed_moment (pos 1_735_689_599_999_999_999) ≡ codes "2024-12-31T23:59:59.999999999Z")
    × (printed_moment (pos 1_735_689_600_000_000_000) ≡ codes "2025-01-01T00:00:00.000000000Z")
unfolding printed_moment date_shown first_between first_of days_of_months
printed_at_ends = (refl, refl, refl, refl, refl, refl)

-- ---- times, places and ticks

-- a clock that begins so many milliseconds after noon of 1 March 2024
abbrev from_noon : ℤ → ℕ → Clock
from_noon milliseconds rate = record {
  t0 = (pos (1_709_294_400 * 10 ^ 3) +ℤ milliseconds) *ℤ pos (10 ^ 6);
  rate = rate;
}

-- noon itself
abbrev noon : ℤ
noon = pos 1_709_294_400

-- a clock begins at most 8 * 10^18 nanoseconds from 1970, and runs at 800 Hz to 200 kHz
abbrev clock : ℤ → ℕ → Clock
clock t0 rate = record { t0 = t0; rate = rate }

pub known_clocks : IsClock (clock (pos 8_000_000_000_000_000_000) 800_000_000) ×
    IsClock (clock (neg_ℤ (pos 8_000_000_000_000_000_000)) 200_000_000_000) ×
    (¬ IsClock (clock (pos 8_000_000_000_000_000_001) 800_000_000)) × (¬ IsClock (clock (pos 0) 799_999_999))
    × (¬ IsClock (clock (pos 0) 200_000_000_001))
known_clocks = (
  record { t0 = (omega (arith, ints), omega (arith, ints)); slowest = omega arith; fastest = omega arith },
  record { t0 = (omega (arith, ints), omega (arith, ints)); slowest = omega arith; fastest = omega arith },
  λ c. absurd (omega (arith, ints, c.t0.1)),
  λ c. absurd (omega (arith, c.slowest)),
  λ c. absurd (omega (arith, c.fastest)),
)

-- sample times are rounded down: at 1199 Hz the sample at place 1199 is taken at the second, and at place
-- 1200 834,028 ns later
pub known_times : (time_of (from_noon (negsuc 999) 1_199_000_000) 1199 ≡ moment_of noon)
    × (time_of (from_noon (negsuc 999) 1_199_000_000) 1200 ≡ (moment_of noon +ℤ pos 834_028))
    × (time_of (from_noon (negsuc 999) 1_199_000_000) 720_720
    ≡ moment_of (noon +ℤ pos 600) +ℤ pos 100_917_431)
    × (time_of (record { t0 = negsuc 0; rate = 1_200_000_000 }) 1 ≡ pos 833_332)
unfolding time_of
known_times = (refl, refl, refl, refl)

-- noon is at place 594 of a recording that begins 0.495 s before it, and at its end where that is no later
pub known_places : (place_of (from_noon (negsuc 494) 1_200_000_000) (moment_of noon) 1200 ≡ 594)
    × (place_of (from_noon (negsuc 494) 1_200_000_000) (moment_of noon) 500 ≡ 500)
    × (place_of (from_noon (negsuc 999) 1_199_000_000) (moment_of noon) 721_798 ≡ 1199)
    × (place_of (from_noon (pos 9995) 1_200_000_000) (moment_of (noon +ℤ pos 10)) 12_006 ≡ 6)
    × (place_of (from_noon (pos 9995) 1_200_000_000) (moment_of (noon +ℤ pos 20)) 12_006 ≡ 12_006)
    × (place_of (from_noon (pos 0) 1_200_000_000) (moment_of (negsuc 0)) 100 ≡ 0)
    × (place_of (record { t0 = neg_ℤ (pos (10 ^ 9)); rate = 1_200_000_000 }) (neg_ℤ (pos (5 * 10 ^ 8))) 1200
    ≡ 600)
    × (place_of (from_noon (pos 0) 1_200_000_000) (moment_of noon) 0 ≡ 0)
unfolding place_of time_of first_between first_of
known_places = (refl, refl, refl, refl, refl, refl, refl, refl)

-- a place that is too far to count to: ten minutes after noon at 1199 Hz
pub far_place : place_of (from_noon (negsuc 999) 1_199_000_000) (moment_of (noon +ℤ pos 600)) 721_798
    ≡ 720_599
unfolding time_of
far_place = place_by_neighbour (from_noon (negsuc 999) 1_199_000_000) (moment_of (noon +ℤ pos 600)) 721_798
    720_598 (lit< tt) refl refl

-- the ticks of ten minutes and of ten seconds: both ends count, with no sample there is the first moment
-- alone, and ticks before 1970 are negative
pub known_ticks : (ticks (from_noon (negsuc 494) 1_200_000_000) 1200 600 ≡ noon ∷ [])
    × (ticks (from_noon (negsuc 999) 1_199_000_000) 721_798 600 ≡ noon ∷ (noon +ℤ pos 600) ∷ [])
    × (ticks (from_noon (pos 9995) 1_200_000_000) 12_006 10 ≡ (noon +ℤ pos 10) ∷ (noon +ℤ pos 20) ∷ [])
    × (ticks (from_noon (pos 9995) 1_200_000_000) 12_005 10 ≡ (noon +ℤ pos 10) ∷ [])
    × (ticks (from_noon (pos 0) 1_200_000_000) 0 7200 ≡ noon ∷ []) ×
    (ticks (from_noon (pos 1) 1_200_000_000) 100 10 ≡ [])
    × (ticks (record { t0 = neg_ℤ (pos (1_205 * 10 ^ 9)); rate = 1_200_000_000 }) 1_500_000 600
    ≡ (neg_ℤ (pos 1200)) ∷ neg_ℤ (pos 600) ∷ pos 0 ∷ [])
unfolding ticks time_of steps_from
known_ticks = (refl, refl, refl, refl, refl, refl, refl)
