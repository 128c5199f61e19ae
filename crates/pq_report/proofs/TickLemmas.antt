-- The second of a tick is told by its moment.
use Rattle.std.proofs.Common.{◌≡◌, ◌≢◌, ℕ, ◌+◌, ◌-◌, ◌^◌, ◌<◌, ◌≤◌, [], ◌∷◌, ◌++◌, length, take, drop, ℤ, pos, ◌+ℤ◌, ◌*ℤ◌, Option, Some, None, option_map, bytes_eq, refl, sym, ap, subst, ◌∙◌, arith}
use Rattle.std.proofs.lemmas.Bool.Decides.{nat_tests}
use Rattle.std.proofs.lemmas.Slice.Eq.{bytes_eq-Decides}
use borrow.Author.Differences.{up, down}
use Rattle.jiff_core.specs.Calendar.{IsCivilDate, IsDate, days_in_month}
use Rattle.jiff_core.proofs.SignedLemmas.{signed_arith}
use Rattle.pq_items.specs.ItemRange.{IsTickInRange}
use Rattle.pq_report.specs.ReportReading.{second_at, second_read}
use Rattle.pq_report.specs.ReportText.{second_text}
use Rattle.pq_report.specs.ShownSecond.{IsShortDate, seconds_in_day}
use Rattle.pq_report.proofs.DigitLemmas.{digits_padded}
use Rattle.pq_time.specs.Moment.{day_number, moment_at}
use Rattle.pq_time.specs.Printed.{IsShown, date_shown, hms_text, printed_moment, time_shown, time_text, ymd_text}
use Rattle.pq_time.specs.Tick.{moment_of}
use Rattle.pq_time.specs.Written.{CivilDate, TimeOfDay}
use Rattle.pq_time.proofs.PrintedLemmas.{shown_is}
use Rattle.pq_words.specs.First.{FirstAt, IsFirst, first_between}
use Rattle.pq_words.specs.Text.{Text, digits_between, padded}
use Rattle.pq_words.proofs.FirstLaws.{first_between_is, first_between_only}

-- ---- what a moment shows

-- the text of a date and a time of day
abbrev pub text_at : CivilDate → TimeOfDay → Text
text_at d t = ymd_text d ++ 84 ∷ time_text t ++ 90 ∷ []

pub text_is : (second : ℤ) → second_text second
    ≡ text_at (date_shown (moment_of second)) (time_shown (moment_of second))
unfolding printed_moment
text_is second = refl

pub shown : (second : ℤ) → IsTickInRange second →
    IsShown (moment_of second) (date_shown (moment_of second)) (time_shown (moment_of second))
shown second range = shown_is (moment_of second) (omega (arith, signed_arith, range))

pub days_few : (y : ℤ) (m : ℕ) → days_in_month y m < 100
days_few y m = grind (arith, nat_tests)

pub short_date : (d : CivilDate) → IsCivilDate (pos d.year) d.month d.day → IsShortDate d
short_date d civil = record { date = civil; year = omega (arith, signed_arith, civil.0) }

-- ---- no other date and time of day has the text

same_digits : (k place a b : ℕ) (x y : Text) → 1 ≤ k → a < 10 ^ k → b < 10 ^ k → x ≡ y →
    take k (drop place x) ≡ padded k a → take k (drop place y) ≡ padded k b → a ≡ b
same_digits k place a b x y some small less same first second =
    let is : Some a ≡ Some b = sym (digits_padded k a some small)
    ∙ ap (digits_between 1 k) (sym first ∙ ap (λ text. take k (drop place text)) same ∙ second)
    ∙ digits_padded k b some less in
    cc

pub same_shown : (d e : CivilDate) (t u : TimeOfDay) (x y : ℤ) → IsShown x d t → IsShown y e u →
    text_at d t ≡ text_at e u → (d ≡ e) × (t ≡ u)
same_shown d e t u x y one other same =
    let first = short_date d one.date in
    let second = short_date e other.date in
    let year = same_digits 4 0 d.year e.year (text_at d t) (text_at e u)
    (omega arith) first.year second.year same
    refl refl in
    let month = same_digits 2 5 d.month e.month (text_at d t) (text_at e u) (omega arith)
    (omega (arith, one.date.1)) (omega (arith, other.date.1)) same refl refl in
    let day = same_digits 2 8 d.day e.day (text_at d t) (text_at e u) (omega arith)
    (omega (arith, one.date.2, days_few (pos d.year) d.month))
    (omega (arith, other.date.2, days_few (pos e.year) e.month)) same refl refl in
    let hour = same_digits 2 11 t.hour u.hour (text_at d t) (text_at e u) (omega arith)
    (omega (arith, one.hour)) (omega (arith, other.hour)) same refl refl in
    let minute = same_digits 2 14 t.minute u.minute (text_at d t) (text_at e u) (omega arith)
    (omega (arith, one.minute)) (omega (arith, other.minute)) same refl refl in
    let secs = same_digits 2 17 t.second u.second (text_at d t) (text_at e u) (omega arith)
    (omega (arith, one.second)) (omega (arith, other.second)) same refl refl in
    let rest = same_digits 9 20 t.nanosecond u.nanosecond (text_at d t) (text_at e u) (omega arith)
    one.nanosecond other.nanosecond same refl refl in (
      (λ i. record { year = year i; month = month i; day = day i }),
      (λ i. record { hour = hour i; minute = minute i; second = secs i; nanosecond = rest i }),
    )

-- nor has another second
pub same_second : (s u : ℤ) → IsTickInRange s → IsTickInRange u → second_text s ≡ second_text u → s ≡ u
same_second s u range other same =
    let one = shown s range in
    let two = shown u other in
    let both = same_shown (date_shown (moment_of s)) (date_shown (moment_of u)) (time_shown (moment_of s))
    (time_shown (moment_of u)) (moment_of s) (moment_of u) one two (sym (text_is s) ∙ same ∙ text_is u) in
    let moments : moment_of s ≡ moment_of u = sym one.both
    ∙ ap (λ d. moment_at d (time_shown (moment_of s))) both.0
    ∙ ap (λ t. moment_at (date_shown (moment_of u)) t) both.1 ∙ two.both in
    omega (arith, signed_arith, moments)

-- ---- the second that is read

-- the number of a second among those that a tick can be
place_of_second : (s : ℤ) → IsTickInRange s → (k : ℕ) × (second_at k ≡ s) × (k < 18_000_000_001)
place_of_second s range = (
  up s + 9_000_000_000 - down s,
  omega (arith, signed_arith, range),
  omega (arith, signed_arith, range),
)

second_in_range : (k : ℕ) → k < 18_000_000_001 → IsTickInRange (second_at k)
second_in_range k small = omega (arith, signed_arith, small)

-- the second whose moment the field is
pub second_found : (field : Text) (s : ℤ) → IsTickInRange s → field ≡ second_text s →
    second_read field ≡ Some s
unfolding second_read
second_found field s range is =
    let place = place_of_second s range in
    let k = place.0 in
    let test = λ (j : ℕ). bytes_eq field (second_text (second_at j)) in
    let first : FirstAt test 0 18_000_000_001 k = record {
      after = omega arith;
      below = place.2;
      passes = (bytes_eq-Decides field (second_text (second_at k))).1 (is ∙ ap second_text (sym place.1));
      none_before =
          λ j low less yes.
          let text : field ≡ second_text (second_at j) = (bytes_eq-Decides field (second_text
          (second_at j))).0 yes in
          let same : second_at j ≡ s = same_second (second_at j) s
          (second_in_range j (omega (arith, less, place.2))) range (sym text ∙ is) in
          omega (arith, signed_arith, same, place.1, less);
    } in
    sym (ap (option_map second_at) (first_between_only test 0 18_000_000_001 (Some k) first))
    ∙ ap Some place.1

read_from : (field : Text) (r : Option ℕ) (s : ℤ) → IsFirst (λ k. bytes_eq field (second_text
    (second_at k))) 0
    18_000_000_001 r → option_map second_at r ≡ Some s → IsTickInRange s × (field ≡ second_text s)
read_from field None s first is = absurd cc
read_from field (Some k) s first is =
    let same : second_at k ≡ s = cc in (
      subst IsTickInRange same (second_in_range k first.below),
      (bytes_eq-Decides field (second_text (second_at k))).0 first.passes ∙ ap second_text same,
    )

-- a second that was read is in range, and the field is its moment
pub second_is : (field : Text) (s : ℤ) → second_read field ≡ Some s →
    IsTickInRange s × (field ≡ second_text s)
unfolding second_read
second_is field s is =
    let test = λ (k : ℕ). bytes_eq field (second_text (second_at k)) in
    read_from field (first_between test 0 18_000_000_001) s (first_between_is test 0 18_000_000_001) is

none_by : (field : Text) (r : Option ℤ) → second_read field ≡ r → ((s : ℤ) → IsTickInRange s → field
    ≢ second_text s) → r ≡ None
none_by field None is none = refl
none_by field (Some s) is none = let read = second_is field s is in absurd (none s read.0 read.1)

-- and where no second in range has the field, none is read
pub second_none : (field : Text) → ((s : ℤ) → IsTickInRange s → field ≢ second_text s) →
    second_read field ≡ None
second_none field none = none_by field (second_read field) refl none

-- none is read where none was shown, or one whose moment is another
pub none_shown : (field : Text) (r : Option ℤ) → ((s : ℤ) → IsTickInRange s → field ≡ second_text s →
    r ≡ Some s)
    → r ≡ None → second_read field ≡ None
none_shown field r only none = second_none field (λ s range is.
    let both : None ≡ Some s = sym none ∙ only s range is in absurd cc)

pub other_shown : (field : Text) (r : Option ℤ) (x : ℤ) →
    ((s : ℤ) → IsTickInRange s → field ≡ second_text s → r ≡ Some s) → r ≡ Some x →
    (IsTickInRange x → field ≢ second_text x) → second_read field ≡ None
other_shown field r x only is never = second_none field (λ s range text.
    let both : Some x ≡ Some s = sym is ∙ only s range text in
    let same : s ≡ x = cc in
    never (subst IsTickInRange same range) (text ∙ ap second_text same))

-- ---- the second that is shown

pub day_part : (d : CivilDate) (t : TimeOfDay) → take 10 (text_at d t) ≡ ymd_text d
day_part d t = refl

pub time_part : (d : CivilDate) (t : TimeOfDay) → take 8 (drop 11 (text_at d t)) ≡ hms_text t
time_part d t = refl

pub length_text : (d : CivilDate) (t : TimeOfDay) → length (text_at d t) ≡ 30
length_text d t = refl

-- whole seconds by the day and the time of day
pub second_by_parts : (s : ℤ) (d : CivilDate) (t : TimeOfDay) → IsShown (moment_of s) d t →
    (day_number d *ℤ pos 86_400) +ℤ pos (seconds_in_day t) ≡ s
second_by_parts s d t h = omega (arith, signed_arith, h.both, h.nanosecond)

-- ---- the date that digits write

digits_are : (k n v : ℕ) (text : Text) → 1 ≤ k → n < 10 ^ k → text ≡ padded k n →
    Some v ≡ digits_between 1 k text
    → v ≡ n
digits_are k n v text some small is read =
    let same : Some v ≡ Some n = read ∙ ap (digits_between 1 k) is ∙ digits_padded k n some small in
    cc

pub year_is : (d : CivilDate) (field : Text) (y : ℕ) → IsShortDate d → field ≡ ymd_text d →
    Some y ≡ digits_between 1 4 (take 4 field) → y ≡ d.year
year_is d field y h is read = digits_are 4 d.year y (take 4 field) (omega arith) h.year (ap (take 4) is) read

pub month_is : (d : CivilDate) (field : Text) (m : ℕ) → IsShortDate d → field ≡ ymd_text d →
    Some m ≡ digits_between 1 2 (take 2 (drop 5 field)) → m ≡ d.month
month_is d field m h is read = digits_are 2 d.month m (take 2 (drop 5 field)) (omega arith)
    (omega (arith, h.date.1)) (ap (λ text. take 2 (drop 5 text)) is) read

pub day_is : (d : CivilDate) (field : Text) (k : ℕ) → IsShortDate d → field ≡ ymd_text d →
    Some k ≡ digits_between 1 2 (take 2 (drop 8 field)) → k ≡ d.day
day_is d field k h is read = digits_are 2 d.day k (take 2 (drop 8 field)) (omega arith)
    (omega (arith, h.date.2, days_few (pos d.year) d.month)) (ap (λ text. take 2 (drop 8 text)) is) read

-- a date of the calendar, by its signed numbers
pub signed_date : (y m k : ℤ) (d : CivilDate) → IsShortDate d → y ≡ pos d.year → m ≡ pos d.month →
    k ≡ pos d.day
    → IsDate y m k
signed_date y m k d h year month day = rw (year, month, day) (
  h.date.0,
  (omega (arith, signed_arith, h.date.1), omega (arith, signed_arith, h.date.1)),
  (omega (arith, signed_arith, h.date.2), omega (arith, signed_arith, h.date.2)),
)
