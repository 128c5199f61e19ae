-- The subject: what a moment shows in digits, and what is told by it. All of it is profile.
use Rattle.std.specs.Prelude.{◌≡◌, ℕ, ◌+◌, ◌*◌, ◌^◌, ◌<◌, ℤ, pos, Option, Some}
use Rattle.jiff_core.specs.Calendar.{IsCivilDate}
use Rattle.pq_items.specs.ItemRange.{IsTickInRange}
use Rattle.pq_report.specs.ReportText.{second_text}
use Rattle.pq_time.specs.Moment.{day_number}
use Rattle.pq_time.specs.Printed.{hms_text, ymd_text}
use Rattle.pq_time.specs.Written.{CivilDate, TimeOfDay}
use Rattle.pq_words.specs.Text.{Text}

-- a date of the calendar whose year has up to four digits
pub record IsShortDate (d : CivilDate) : Type 0 where
  pub date : IsCivilDate (pos d.year) d.month d.day
  pub year : d.year < 10 ^ 4

-- a time of day
pub record IsTime (t : TimeOfDay) : Type 0 where
  pub hour : t.hour < 24
  pub minute : t.minute < 60
  pub second : t.second < 60

-- the whole seconds since midnight
abbrev pub seconds_in_day : TimeOfDay → ℕ
seconds_in_day t = 3600 * t.hour + 60 * t.minute + t.second

-- a date tells its day number
abbrev pub TellsDay : Text → Option ℤ → Type 0
TellsDay field day = (d : CivilDate) → IsShortDate d → field ≡ ymd_text d → day ≡ Some (day_number d)

-- a time of day tells its seconds
abbrev pub TellsTime : Text → Option ℕ → Type 0
TellsTime field seconds = (t : TimeOfDay) → IsTime t → field ≡ hms_text t → seconds ≡ Some (seconds_in_day t)

-- the moment of a tick tells its second
abbrev pub TellsSecond : Text → Option ℤ → Type 0
TellsSecond field tick = (second : ℤ) → IsTickInRange second → field ≡ second_text second → tick ≡ Some second
