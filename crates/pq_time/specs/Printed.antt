-- The subject: moments as they are printed, `yyyy-mm-ddThh:mm:ss.nnnnnnnnnZ` in UTC, 30 bytes (profile).
use Rattle.std.specs.Prelude.{◌≡◌, ◌↔◌, ℕ, ◌+◌, ◌-◌, ◌*◌, ◌/◌, ◌%◌, ◌^◌, ◌<◌, nat_lt, [], ◌∷◌, ◌++◌, ℤ, pos, ◌+ℤ◌, unsigned_abs, unwrap_or}
use Rattle.std.specs.Int.{int_div_euclid, int_rem_euclid}
use Rattle.jiff_core.specs.Calendar.{IsCivilDate, days_of_months}
use Rattle.jiff_core.specs.declared.civil.date.Date.{Date}
use Rattle.pq_time.specs.Moment.{moment_at}
use Rattle.pq_time.specs.Written.{CivilDate, TimeOfDay}
use Rattle.pq_words.specs.First.{first_between}
use Rattle.pq_words.specs.Magnitude.{IsWithin}
use Rattle.pq_words.specs.Text.{Text, padded}

-- ---- what a clock shows

-- a clock shows this date and time at the moment: the calendar has the date, the day has the time, and the
-- moment is theirs, so many days by the date's day number and so many nanoseconds by the time
pub record IsShown (moment : ℤ) (d : CivilDate) (t : TimeOfDay) : Type 0 where
  pub date : IsCivilDate (pos d.year) d.month d.day
  pub hour : t.hour < 24
  pub minute : t.minute < 60
  pub second : t.second < 60
  pub nanosecond : t.nanosecond < 10 ^ 9
  pub both : moment_at d t ≡ moment

-- the day number of a moment
abbrev pub day_of : ℤ → ℤ
day_of moment = int_div_euclid moment (pos 86_400_000_000_000)

-- the nanoseconds since the midnight before it, or at it
abbrev pub since_midnight : ℤ → ℕ
since_midnight moment = unsigned_abs (int_rem_euclid moment (pos 86_400_000_000_000))

-- the days from 1 January of the year 1 to 1 January of a year: 365 a year, and one more for each leap year
abbrev pub days_before_year : ℕ → ℕ
days_before_year year = 365 * (year - 1) + (year - 1) / 4 + (year - 1) / 400 - (year - 1) / 100

-- the year from 1600 to 2399 in which n days have passed since 1 January of the year 1: the first that ends
-- later
abbrev pub year_at : ℕ → ℕ
year_at n = unwrap_or (first_between (λ year. nat_lt n (days_before_year (year + 1))) 1600 2400) 1600

-- the month in which n days of a year have passed: the first that ends later
abbrev pub month_at : ℕ → ℕ → ℕ
month_at year n = unwrap_or (first_between (λ month. nat_lt n (days_of_months (pos year) month)) 1 13) 1

-- the date, n days after 1 January of a year
abbrev pub date_in_year : ℕ → ℕ → CivilDate
date_in_year year n = record {
  year = year;
  month = month_at year n;
  day = n - days_of_months (pos year) (month_at year n - 1) + 1;
}

-- the date, n days after 1 January of the year 1
abbrev pub date_at : ℕ → CivilDate
date_at n = date_in_year (year_at n) (n - days_before_year (year_at n))

-- the date that a clock in UTC shows: the one of the moment's day number, as `ShowsMoments` says. 1970 begins
-- 719,162 days after the year 1
unfoldable pub date_shown : ℤ → CivilDate
date_shown moment = date_at (unsigned_abs (day_of moment +ℤ pos 719_162))

-- the time of day, so many nanoseconds after midnight
abbrev pub time_at : ℕ → TimeOfDay
time_at n = record {
  hour = n / 3_600_000_000_000;
  minute = n / 60_000_000_000 % 60;
  second = n / 1_000_000_000 % 60;
  nanosecond = n % 1_000_000_000;
}

-- the time of day that a clock in UTC shows
abbrev pub time_shown : ℤ → TimeOfDay
time_shown moment = time_at (since_midnight moment)

-- at each moment of 64 bits a clock in UTC shows this date and this time, and no others
abbrev pub ShowsMoments : Type 0
ShowsMoments = (moment : ℤ) (date : CivilDate) (time : TimeOfDay) → IsWithin (2 ^ 63) moment →
    IsShown moment date time ↔ ((date ≡ date_shown moment) × (time ≡ time_shown moment))

-- ---- the text

-- what contracts see of a date of `jiff_core`
abbrev pub date_view : Date → CivilDate
date_view d = record { year = unsigned_abs d.year; month = d.month; day = d.day }

-- `yyyy-mm-dd`
abbrev pub ymd_text : CivilDate → Text
ymd_text d = padded 4 d.year ++ 45 ∷ padded 2 d.month ++ 45 ∷ padded 2 d.day

-- `hh:mm:ss`
abbrev pub hms_text : TimeOfDay → Text
hms_text t = padded 2 t.hour ++ 58 ∷ padded 2 t.minute ++ 58 ∷ padded 2 t.second

-- `hh:mm:ss.nnnnnnnnn`
abbrev pub time_text : TimeOfDay → Text
time_text t = hms_text t ++ 46 ∷ padded 9 t.nanosecond

-- the printed moment
unfoldable pub printed_moment : ℤ → Text
printed_moment moment =
    let d = date_shown moment in
    let t = time_shown moment in
    ymd_text d ++ 84 ∷ time_text t ++ 90 ∷ []
