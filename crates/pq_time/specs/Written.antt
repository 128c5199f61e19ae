-- The subject: dates, times and time codes as a cfg writes them (IEEE C37.111, date/time stamp lines and time
-- code line). Their limits are profile.
use Rattle.std.specs.Prelude.{ℕ, ◌+◌, ◌-◌, ◌*◌, ◌^◌, Bool, ◌&&◌, ◌==◌, nat_le, nat_lt, if◌then◌else◌, List, [], ◌∷◌, length, ℤ, pos, neg_ℤ, Option, Some, None, option_map, option_and_then}
use Rattle.jiff_core.specs.Calendar.{days_in_month}
use Rattle.pq_words.specs.Text.{Text, parted_at, digits_between}

-- a day of the Gregorian calendar
pub record CivilDate : Type 0 where
  pub year : ℕ
  pub month : ℕ
  pub day : ℕ

-- a time of day
pub record TimeOfDay : Type 0 where
  pub hour : ℕ
  pub minute : ℕ
  pub second : ℕ
  pub nanosecond : ℕ

-- the year is 1900 to 2199, and the calendar has the day
abbrev pub is_civil_date : CivilDate → Bool
is_civil_date d =
    (nat_le 1900 d.year && nat_le d.year 2199) && ((nat_le 1 d.month && nat_le d.month 12)
    && (nat_le 1 d.day && nat_le d.day (days_in_month (pos d.year) d.month)))

-- hours 0 to 23, minutes and seconds 0 to 59
abbrev pub is_time_of_day : TimeOfDay → Bool
is_time_of_day t = nat_lt t.hour 24 && (nat_lt t.minute 60 && nat_lt t.second 60)

-- the value, where it passes the test
abbrev pub where_passes : {A : Type 0} → (A → Bool) → A → Option A
where_passes test x = if test x then Some x else None

-- the date of a day, a month and a year
abbrev pub date_of_numbers : ℕ → ℕ → ℕ → Option CivilDate
date_of_numbers day month year = where_passes is_civil_date (record { year = year; month = month; day = day })

-- day, month and year of one or two, one or two, and four digits
abbrev pub date_of_parts : List Text → Option CivilDate
date_of_parts (dd ∷ mm ∷ yyyy ∷ []) =
    option_and_then (λ day. option_and_then (λ month. option_and_then (λ year.
    date_of_numbers day month year)
    (digits_between 4 4 yyyy)) (digits_between 1 2 mm)) (digits_between 1 2 dd)
date_of_parts _ = None

-- a date, `dd/mm/yyyy`
unfoldable pub date_of : Text → Option CivilDate
date_of text = date_of_parts (parted_at 47 text)

-- the nanoseconds that one to nine digits after the point stand for
abbrev pub nanoseconds_of : Text → Option ℕ
nanoseconds_of fraction = option_map (λ n. n * 10 ^ (9 - length fraction)) (digits_between 1 9 fraction)

-- the seconds and, behind a point, their fraction
abbrev pub second_of : List Text → Option (ℕ × ℕ)
second_of (ss ∷ []) = option_map (λ s. (s, 0)) (digits_between 1 2 ss)
second_of (ss ∷ fraction ∷ []) = option_and_then (λ s. option_map (λ n. (s, n)) (nanoseconds_of fraction))
    (digits_between 1 2 ss)
second_of _ = None

-- the time of an hour, a minute, a second and its nanoseconds
abbrev pub time_of_numbers : ℕ → ℕ → ℕ × ℕ → Option TimeOfDay
time_of_numbers hour minute second =
    where_passes is_time_of_day (record {
      hour = hour;
      minute = minute;
      second = second.0;
      nanosecond =
          second.1;
    })

-- hours, minutes and seconds of one or two digits each
abbrev pub time_of_parts : List Text → Option TimeOfDay
time_of_parts (hh ∷ mm ∷ ss ∷ []) =
    option_and_then (λ hour. option_and_then (λ minute. option_and_then (λ second.
    time_of_numbers hour minute second)
    (second_of (parted_at 46 ss))) (digits_between 1 2 mm)) (digits_between 1 2 hh)
time_of_parts _ = None

-- a time, `hh:mm:ss` with an optional fraction
unfoldable pub clock_time_of : Text → Option TimeOfDay
clock_time_of text = time_of_parts (parted_at 58 text)

-- hours up to 14 and minutes up to 59, as minutes
abbrev pub minutes_of_numbers : ℕ → ℕ → Option ℕ
minutes_of_numbers hours minutes = if nat_le hours 14 && nat_lt minutes 60 then Some (60 * hours + minutes)
    else None

-- one or two digits of hours, then optionally `h` and two digits of minutes
abbrev pub minutes_of_parts : List Text → Option ℕ
minutes_of_parts (hours ∷ []) = option_and_then (λ h. minutes_of_numbers h 0) (digits_between 1 2 hours)
minutes_of_parts (hours ∷ minutes ∷ []) =
    option_and_then (λ h. option_and_then (λ m. minutes_of_numbers h m) (digits_between 2 2 minutes))
    (digits_between 1 2 hours)
minutes_of_parts _ = None

-- the minutes that a time code without its sign stands for
unfoldable pub minutes_of : Text → Option ℕ
minutes_of text = minutes_of_parts (parted_at 104 text)

-- a time code, in minutes: an optional sign, which holds for hours and minutes together
unfoldable pub code_of : Text → Option ℤ
code_of [] = None
code_of (c ∷ text) =
    if c == 45 then option_map (λ n. neg_ℤ (pos n)) (minutes_of text)
    else option_map pos (minutes_of (if c == 43 then text else c ∷ text))
