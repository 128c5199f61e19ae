-- Day numbers: their range in the years that are written, and the date that a day number shows.
use Rattle.std.proofs.Common.{◌≡◌, ℕ, Bool, true, false, Option, Some, None, nat_lt, unwrap_or, subst, ◌+◌, ◌-◌, ◌<◌, ◌≤◌, refl, inl, inr, arith, rules, pos, neg_ℤ, ◌≤ℤ◌}
use Rattle.std.proofs.lemmas.Bool.{cases_lt, lt-ltb, ltb-true, ltb-false}
use Rattle.pq_time.specs.Written.{CivilDate}
use Rattle.pq_time.specs.Moment.{day_number}
use Rattle.pq_time.specs.Printed.{date_at, date_in_year, days_before_year}
use Rattle.jiff_core.specs.declared.civil.date.Date.{Date}
use Rattle.jiff_core.specs.Calendar.{day_count, days_in_year, days_of_months, IsCivilDate, IsBetween}
use Rattle.jiff_core.specs.Date.{epoch_day}
use Rattle.jiff_core.proofs.CalendarLemmas.{days_from_civil-day_count, days_of_months-zero, days_of_months_all, days_of_months_more, day_count-day_of_year, day_count-lt_year, day_count-last_of_year, day_count-next_year}
use Rattle.jiff_core.proofs.DateLemmas.{civil, epoch_day_injective}
use Rattle.jiff_core.proofs.MarchLemmas.{day_count-early}
use Rattle.jiff_core.proofs.SignedLemmas.{signed_arith}
use Rattle.pq_words.specs.First.{Nowhere, IsFirst, first_between}
use Rattle.pq_words.proofs.FirstLaws.{first_between_is}

day_count_1900 : day_count (pos 1900) 1 1 ≡ 4_346_386
day_count_1900 = day_count-early (pos 1900) 11899 1 1 refl (omega arith) (omega arith) (omega arith)

day_count_2200 : day_count (pos 2200) 1 1 ≡ 4_455_959
day_count_2200 = day_count-early (pos 2200) 12199 1 1 refl (omega arith) (omega arith) (omega arith)

last_of_1899 : day_count (pos 1899) 12 31 + 1 ≡ 4_346_386
last_of_1899 = omega (
  arith,
  day_count_1900,
  day_count-last_of_year (pos 1899),
  day_count-next_year (pos 1899) (pos 1900) (search rules) refl,
)

-- a date from 1900 to 2199
pub written_day : (d : Date) → pos 1900 ≤ℤ d.year → d.year ≤ℤ pos 2199 →
    IsBetween (neg_ℤ (pos 25_567)) (pos 84_005) (epoch_day d)
written_day d from until =
    let after : day_count (pos 1899) 12 31 < day_count d.year d.month d.day =
    day_count-lt_year (pos 1899) 12 31 d.year d.month d.day (search rules) d.day_in.0
    (omega (arith, signed_arith)) in
    let before : day_count d.year d.month d.day < day_count (pos 2200) 1 1 =
    day_count-lt_year d.year d.month d.day (pos 2200) 1 1 (civil d) (omega arith)
    (omega (arith, signed_arith)) in
    omega (arith, signed_arith, days_from_civil-day_count, day_count_2200, last_of_1899)

-- ---- the date of a day

-- the days before a year, by the calendar
days_before_year_is : (year : ℕ) → 1 ≤ year → days_before_year year + 3_652_791 ≡ day_count (pos year) 1 1
days_before_year_is year some =
    let early = day_count-early (pos year) (year + 9999) 1 1 (omega (arith, signed_arith)) (omega arith)
    (omega arith) (omega arith) in
    omega (arith, early, some)

-- a year more
days_of_year : (year : ℕ) → 1 ≤ year → days_before_year (year + 1) ≡ days_before_year year
    + days_in_year (pos year)
days_of_year year some =
    let next = day_count-next_year (pos year) (pos (year + 1)) (omega (arith, signed_arith))
    (omega (arith, signed_arith)) in
    omega (arith, days_before_year_is year some, days_before_year_is (year + 1) (omega arith), next)

-- a date of the calendar that has so many days before it
pub record IsDay (count : ℕ) (d : CivilDate) : Type 0 where
  pub civil_date : IsCivilDate (pos d.year) d.month d.day
  pub counted : day_count (pos d.year) d.month d.day ≡ count

is_false : (b : Bool) → (b ≡ true → ⊥) → b ≡ false
is_false true h = absurd (h refl)
is_false false h = refl

-- what grows past n at the first place that passes has not done so before it
reached : (test : ℕ → Bool) (f : ℕ → ℕ) (n low k : ℕ) →
    ((i : ℕ) → low ≤ i → test i ≡ false → f (i + 1) ≤ n) → f low ≤ n → low ≤ k → Nowhere test low k → f k ≤ n
reached test f n low k step from later none =
    elim (cases_lt low k) [
      | inl less ↦
          let back : k - 1 + 1 ≡ k = omega (arith, less) in
          let fails : test (k - 1) ≡ false = is_false (test (k - 1)) (none (k - 1) (omega (arith, less))
          (omega (arith, less))) in
          subst (λ i. f i ≤ n) back (step (k - 1) (omega (arith, less)) fails)
      | inr rest ↦ let same : low ≡ k = omega (arith, rest, later) in subst (λ i. f i ≤ n) same from
    ]

-- the date in a year of which so many days have passed
in_year : (year n : ℕ) → year ≤ 9999 → n < days_in_year (pos year) →
    IsDay (day_count (pos year) 1 1 + n) (date_in_year year n)
in_year year n short inside = at (first_between test 1 13) (first_between_is test 1 13)
  where
    test : ℕ → Bool
    test month = nat_lt n (days_of_months (pos year) month)

    made : ℕ → CivilDate
    made month = record { year = year; month = month; day = n - days_of_months (pos year) (month - 1) + 1 }

    at : (o : Option ℕ) → IsFirst test 1 13 o → IsDay (day_count (pos year) 1 1 + n) (made (unwrap_or o 1))
    at None none =
        let last : n < days_of_months (pos year) 12 = omega (arith, days_of_months_all (pos year), inside) in
        absurd (none 12 (omega arith) (omega arith) (lt-ltb n (days_of_months (pos year) 12) last))
    at (Some m) first =
        let past : days_of_months (pos year) (m - 1) ≤ n =
        reached test (λ k. days_of_months (pos year) (k - 1)) n 1 m
        (λ i from fails. let same : i ≡ i + 1 - 1 = omega arith in
        subst (λ k. days_of_months (pos year) k ≤ n) same
        (ltb-false n (days_of_months (pos year) i) fails))
        (omega (arith, days_of_months-zero (pos year))) first.after first.none_before in
        let less : n < days_of_months (pos year) m = ltb-true n (days_of_months (pos year) m) first.passes in
        let more = days_of_months_more (pos year) m first.after in
        let count = day_count-day_of_year (pos year) m (n - days_of_months (pos year) (m - 1) + 1)
        (omega arith) in
        record {
          civil_date = (
            (omega (arith, signed_arith, short), omega (arith, signed_arith, short)),
            (first.after, omega (arith, first.below)),
            (omega arith, omega (arith, past, less, more)),
          );
          counted = omega (arith, count, past);
        }

-- the date n days after 1 January of the year 1
pub on_day : (n : ℕ) → 584_022 ≤ n → n < 876_216 → IsDay (n + 3_652_791) (date_at n)
on_day n from until = at (first_between test 1600 2400) (first_between_is test 1600 2400)
  where
    test : ℕ → Bool
    test year = nat_lt n (days_before_year (year + 1))

    made : ℕ → CivilDate
    made year = date_in_year year (n - days_before_year year)

    at : (o : Option ℕ) → IsFirst test 1600 2400 o → IsDay (n + 3_652_791) (made (unwrap_or o 1600))
    at None none = absurd (none 2399 (omega arith) (omega arith) (lt-ltb n (days_before_year 2400) until))
    at (Some year) first =
        let some : 1 ≤ year = omega (arith, first.after) in
        let past : days_before_year year ≤ n =
        reached test days_before_year n 1600 year
        (λ i after fails. ltb-false n (days_before_year (i + 1)) fails) from first.after
        first.none_before in
        let less : n < days_before_year (year + 1) = ltb-true n (days_before_year (year + 1)) first.passes in
        let inside : n - days_before_year year < days_in_year (pos year) =
        omega (arith, past, less, days_of_year year some) in
        let count : day_count (pos year) 1 1 + (n - days_before_year year) ≡ n + 3_652_791 =
        omega (arith, past, days_before_year_is year some) in
        subst (λ c. IsDay c (made year)) count
        (in_year year (n - days_before_year year) (omega (arith, first.below)) inside)

-- two dates of one day number are one
pub one_date : (d e : CivilDate) → IsCivilDate (pos d.year) d.month d.day →
    IsCivilDate (pos e.year) e.month e.day → day_number d ≡ day_number e → d ≡ e
one_date d e there other same =
    let dated : (c : CivilDate) → IsCivilDate (pos c.year) c.month c.day → Date = λ c h. record {
      year = pos c.year;
      month = c.month;
      day = c.day;
      year_in = h.0;
      month_in = h.1;
      day_in = h.2;
    } in
    let parts = epoch_day_injective (dated d there) (dated e other) same in
    let year : d.year ≡ e.year = omega (arith, signed_arith, parts.0) in
    λ i. record { year = year i; month = parts.1 i; day = parts.2 i }

-- a date of jiff that has the day number of a date is that date
pub same_date : (d : Date) (e : CivilDate) → IsCivilDate (pos e.year) e.month e.day → epoch_day d
    ≡ day_number e → (d.year ≡ pos e.year) × (d.month ≡ e.month) × (d.day ≡ e.day)
same_date d e there same =
    let other : Date = record {
      year = pos e.year;
      month = e.month;
      day = e.day;
      year_in = there.0;
      month_in = there.1;
      day_in = there.2;
    } in
    epoch_day_injective d other same
