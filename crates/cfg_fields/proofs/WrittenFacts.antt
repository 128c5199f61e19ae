-- What a written date, time and time code tell of their numbers.
use Rattle.std.proofs.Common.{◌≡◌, ℕ, ◌+◌, ◌-◌, ◌*◌, ◌^◌, ◌<◌, ◌≤◌, Bool, true, false, cond, List, [], ◌∷◌, length, ℤ, pos, neg_ℤ, Option, Some, None, refl, sym, ap, ◌∙◌, ◌==◌, arith, nat_le, nat_lt, ◌&&◌}
use Rattle.std.specs.Option.{option_map}
use Rattle.std.specs.Char.{is_ascii_digit, digit_value}
use Rattle.std.specs.List.{list_all}
use Rattle.std.specs.Str.Parse.{AllDigits, digits_value}
use Rattle.std.proofs.lemmas.Int.Digits.{digits_value-lt}
use Rattle.std.proofs.lemmas.Option.{option_and_then_some}
use Rattle.std.proofs.lemmas.Bool.{and_parts, leb-true, ltb-true}
use Rattle.std.proofs.lemmas.Bool.Decides.{nat_tests}
use Rattle.std.proofs.lemmas.Int.{ints}
use Rattle.pq_words.specs.Text.{Text, parted_at, digits_between}
use Rattle.pq_words.specs.Magnitude.{IsWithin}
use Rattle.pq_time.specs.Written.{CivilDate, TimeOfDay, is_civil_date, is_time_of_day, where_passes, date_of, date_of_parts, clock_time_of as time_of, time_of_parts, second_of, nanoseconds_of, minutes_of_numbers, minutes_of_parts, minutes_of, code_of}
use Rattle.pq_time.proofs.WrittenLemmas.{scaled_small}

-- what passed a test
pub where_passed : {A : Type 0} (test : A → Bool) (x y : A) → where_passes test x ≡ Some y → (test y ≡ true) ×
    (x ≡ y)
where_passed {A} test x y e = at (test x) refl e
  where
    at : (b : Bool) → test x ≡ b → cond b (Some x) None ≡ Some y → (test y ≡ true) × (x ≡ y)
    at true is e = let same : x ≡ y = cc in (sym (ap test same) ∙ is, same)
    at false is e = absurd cc

-- the digits that were read
pub digits_read : (least most : ℕ) (text : Text) (n : ℕ) → digits_between least most text ≡ Some n
    → (least ≤ length text) × (length text ≤ most) × (list_all is_ascii_digit text ≡ true) ×
    (digits_value 10 text ≡ n)
digits_read least most text n e = at (nat_le least (length text)) (nat_le (length text) most)
    (list_all is_ascii_digit text) refl refl refl e
  where
    at : (a b c : Bool) → nat_le least (length text) ≡ a → nat_le (length text) most ≡ b →
        list_all is_ascii_digit text ≡ c
        → cond (a && (b && c)) (Some (digits_value 10 text)) None ≡ Some n
        → (least ≤ length text) × (length text ≤ most) × (list_all is_ascii_digit text ≡ true) ×
        (digits_value 10 text ≡ n)
    at true true true l m d e = (leb-true least (length text) l, leb-true (length text) most m, d, cc)
    at true true false l m d e = absurd cc
    at true false c l m d e = absurd cc
    at false b c l m d e = absurd cc

digit_small : (c : ℕ) → is_ascii_digit c ≡ true → digit_value c < 10
digit_small c is = grind (arith, nat_tests)

pub all_digits : (text : Text) → list_all is_ascii_digit text ≡ true → AllDigits 10 text
all_digits [] e = tt
all_digits (c ∷ cs) e = let p = and_parts (is_ascii_digit c) (list_all is_ascii_digit cs) e in
    (digit_small c p.0, all_digits cs p.1)

-- they are less than that power of ten
pub digits_small : (least most : ℕ) (text : Text) (n : ℕ) → digits_between least most text ≡ Some n →
    n < 10 ^ length text
digits_small least most text n e =
    let d = digits_read least most text n e in
    let small = digits_value-lt 10 text (all_digits text d.2) in
    omega (arith, small, d.3)

-- ---- dates

date_of_parts_civil : (parts : List Text) (d : CivilDate) → date_of_parts parts ≡ Some d → is_civil_date d
    ≡ true
date_of_parts_civil [] d e = absurd cc
date_of_parts_civil (a ∷ []) d e = absurd cc
date_of_parts_civil (a ∷ b ∷ []) d e = absurd cc
date_of_parts_civil (a ∷ b ∷ c ∷ []) d e =
    option_and_then_some {A = ℕ} _ (digits_between 1 2 a) d e
    (λ day day_is e. option_and_then_some {A = ℕ} _ (digits_between 1 2 b) d e (λ month month_is e.
    option_and_then_some {A = ℕ} _ (digits_between 4 4 c) d e
    (λ year year_is e. (where_passed is_civil_date (record { year = year; month = month; day = day }) d
    e).0)))
date_of_parts_civil (a ∷ b ∷ c ∷ f ∷ more) d e = absurd cc

-- the calendar has a date that was read, from 1900 to 2199
pub date_civil : (text : Text) (d : CivilDate) → date_of text ≡ Some d → is_civil_date d ≡ true
unfolding date_of
date_civil text d e = date_of_parts_civil (parted_at 47 text) d e

-- ---- times

nanoseconds_small : (text : Text) (n : ℕ) → nanoseconds_of text ≡ Some n → n < 10 ^ 9
nanoseconds_small text n e = at (digits_between 1 9 text) refl e
  where
    at : (o : Option ℕ) → digits_between 1 9 text ≡ o → option_map (λ n. n * 10 ^ (9 - length text)) o
        ≡ Some n → n < 10 ^ 9
    at None is e = absurd cc
    at (Some k) is e =
        let d = digits_read 1 9 text k is in
        let same : k * 10 ^ (9 - length text) ≡ n = cc in
        omega (
          arith,
          same,
          scaled_small k (length text) (10 ^ (9 - length text)) d.1
              (digits_small 1 9 text k is) refl,
        )

-- a value that was mapped from one
pub mapped_some : {A B : Type 0} (f : A → B) (o : Option A) (y : B) → option_map f o ≡ Some y → (x : A) ×
    (o ≡ Some x) × (f x ≡ y)
mapped_some f None y e = absurd cc
mapped_some f (Some x) y e = (x, refl, cc)

second_small : (parts : List Text) (s : ℕ × ℕ) → second_of parts ≡ Some s → s.1 < 10 ^ 9
second_small [] s e = absurd cc
second_small (ss ∷ []) s e =
    let m = mapped_some {A = ℕ} _ (digits_between 1 2 ss) s e in
    let none : 0 ≡ s.1 = ap (λ (p : ℕ × ℕ). p.1) m.2 in
    omega (arith, none)
second_small (ss ∷ fraction ∷ []) s e =
    option_and_then_some {A = ℕ} _ (digits_between 1 2 ss) s e (λ k k_is e.
    let m = mapped_some {A = ℕ} _ (nanoseconds_of fraction) s e in
    let same : m.0 ≡ s.1 = ap (λ (p : ℕ × ℕ). p.1) m.2 in
    omega (arith, same, nanoseconds_small fraction m.0 m.1))
second_small (a ∷ b ∷ c ∷ more) s e = absurd cc

-- hours, minutes, seconds and nanoseconds are in range
pub record IsClockTime (t : TimeOfDay) : Type 0 where
  pub hour : t.hour < 24
  pub minute : t.minute < 60
  pub second : t.second < 60
  pub nanosecond : t.nanosecond < 10 ^ 9

time_of_parts_clock : (parts : List Text) (t : TimeOfDay) → time_of_parts parts ≡ Some t → IsClockTime t
time_of_parts_clock [] t e = absurd cc
time_of_parts_clock (a ∷ []) t e = absurd cc
time_of_parts_clock (a ∷ b ∷ []) t e = absurd cc
time_of_parts_clock (a ∷ b ∷ c ∷ []) t e =
    option_and_then_some {A = ℕ} _ (digits_between 1 2 a) t e
    (λ hour hour_is e. option_and_then_some {A = ℕ} _ (digits_between 1 2 b) t e (λ minute minute_is e.
    option_and_then_some {A = ℕ × ℕ} _ (second_of (parted_at 46 c)) t e (λ second second_is e.
    let w = where_passed is_time_of_day (record {
      hour = hour;
      minute = minute;
      second = second.0;
      nanosecond = second.1;
    }) t e in
    let p = and_parts (nat_lt t.hour 24) (nat_lt t.minute 60 && nat_lt t.second 60) w.0 in
    let q = and_parts (nat_lt t.minute 60) (nat_lt t.second 60) p.1 in
    let same : second.1 ≡ t.nanosecond = ap (λ (t : TimeOfDay). t.nanosecond) w.1 in
    record {
      hour = ltb-true t.hour 24 p.0;
      minute = ltb-true t.minute 60 q.0;
      second = ltb-true t.second 60 q.1;
      nanosecond = omega (arith, same, second_small (parted_at 46 c) second second_is);
    })))
time_of_parts_clock (a ∷ b ∷ c ∷ f ∷ more) t e = absurd cc

-- a time that was read
pub time_clock : (text : Text) (t : TimeOfDay) → time_of text ≡ Some t → IsClockTime t
unfolding time_of
time_clock text t e = time_of_parts_clock (parted_at 58 text) t e

-- ---- time codes

numbers_small : (hours minutes m : ℕ) → minutes_of_numbers hours minutes ≡ Some m → m ≤ 899
numbers_small hours minutes m e = at (nat_le hours 14) (nat_lt minutes 60) refl refl e
  where
    at : (a b : Bool) → nat_le hours 14 ≡ a → nat_lt minutes 60 ≡ b →
        cond (a && b) (Some (60 * hours + minutes)) None ≡ Some m → m ≤ 899
    at true true h k e = let same : 60 * hours + minutes ≡ m = cc in
        omega (arith, same, leb-true hours 14 h, ltb-true minutes 60 k)
    at true false h k e = absurd cc
    at false b h k e = absurd cc

parts_small : (parts : List Text) (m : ℕ) → minutes_of_parts parts ≡ Some m → m ≤ 899
parts_small [] m e = absurd cc
parts_small (a ∷ []) m e = option_and_then_some {A = ℕ} _ (digits_between 1 2 a) m e
    (λ h h_is e. numbers_small h 0 m e)
parts_small (a ∷ b ∷ []) m e =
    option_and_then_some {A = ℕ} _ (digits_between 1 2 a) m e
    (λ h h_is e. option_and_then_some {A = ℕ} _ (digits_between 2 2 b) m e
    (λ k k_is e. numbers_small h k m e))
parts_small (a ∷ b ∷ c ∷ more) m e = absurd cc

minutes_small : (text : Text) (m : ℕ) → minutes_of text ≡ Some m → m ≤ 899
unfolding minutes_of
minutes_small text m e = parts_small (parted_at 104 text) m e

-- a time code that was read is less than 15 hours to either side
pub code_small : (text : Text) (z : ℤ) → code_of text ≡ Some z → IsWithin 899 z
unfolding code_of
code_small [] z e = absurd cc
code_small (c ∷ text) z e = at (c == 45) e
  where
    at : (b : Bool) → cond b (option_map (λ (n : ℕ). neg_ℤ (pos n)) (minutes_of text))
        (option_map pos (minutes_of (cond (c == 43) text (c ∷ text)))) ≡ Some z → IsWithin 899 z
    at true e =
        let m = mapped_some {A = ℕ} _ (minutes_of text) z e in
        let small : m.0 ≤ 899 = minutes_small text m.0 m.1 in
        let is : neg_ℤ (pos m.0) ≡ z = m.2 in
        omega (arith, ints, is, small)
    at false e =
        let m = mapped_some {A = ℕ} pos (minutes_of (cond (c == 43) text (c ∷ text))) z e in
        let small : m.0 ≤ 899 = minutes_small (cond (c == 43) text (c ∷ text)) m.0 m.1 in
        let is : pos m.0 ≡ z = m.2 in
        omega (arith, ints, is, small)
