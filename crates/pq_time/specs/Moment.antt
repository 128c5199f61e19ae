-- The subject: moments in nanoseconds since 1 January 1970, of dates and times that are written (profile).
use Rattle.std.specs.Prelude.{ℕ, ◌+◌, ◌*◌, ◌^◌, ℤ, pos, neg_ℤ, ◌+ℤ◌, ◌-ℤ◌, ◌*ℤ◌, Option, Some, None, Result, Ok, Err}
use Rattle.jiff_core.specs.Calendar.{IsBetween, days_from_civil}
use Rattle.pq_time.specs.declared.bad_moment.BadMoment.{BadMoment}
use Rattle.pq_time.specs.declared.bad_moment.BadMoment.TheVariants as bad
use Rattle.pq_time.specs.Written.{CivilDate, TimeOfDay, date_of, clock_time_of}
use Rattle.pq_words.specs.Text.{Text}

-- the day number of a date: 0 for 1 January 1970, and negative before it
abbrev pub day_number : CivilDate → ℤ
day_number d = days_from_civil (pos d.year) d.month d.day

-- the day number of a date from 1900 to 2199
abbrev pub IsWrittenDay : ℤ → Type 0
IsWrittenDay day = IsBetween (neg_ℤ (pos 25_567)) (pos 84_005) day

-- the nanoseconds since midnight
abbrev pub nanoseconds_in_day : TimeOfDay → ℕ
nanoseconds_in_day t = (3600 * t.hour + 60 * t.minute + t.second) * 10 ^ 9 + t.nanosecond

-- the moment at which a clock shows this date and time
abbrev pub moment_at : CivilDate → TimeOfDay → ℤ
moment_at d t = day_number d *ℤ pos 86_400_000_000_000 +ℤ pos (nanoseconds_in_day t)

-- the moment of what was read as a date and what was read as a time; the date is judged first
abbrev pub moment_read : Option CivilDate → Option TimeOfDay → Result ℤ BadMoment
moment_read None t = Err bad.Date
moment_read (Some d) None = Err bad.Time
moment_read (Some d) (Some t) = Ok (moment_at d t)

-- the written moment of a date field and a time field
unfoldable pub written_moment : Text → Text → Result ℤ BadMoment
written_moment date time = moment_read (date_of date) (clock_time_of time)

-- UTC is the written moment less the offset in minutes
abbrev pub utc_of : ℤ → ℤ → ℤ
utc_of written minutes = written -ℤ minutes *ℤ pos 60_000_000_000

-- the written moment is UTC and the offset
abbrev pub written_of : ℤ → ℤ → ℤ
written_of utc minutes = utc +ℤ minutes *ℤ pos 60_000_000_000
