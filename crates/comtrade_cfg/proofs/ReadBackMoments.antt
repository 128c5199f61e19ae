-- A date, a time and a time code that were printed are read back.
use Rattle.std.proofs.Common.{◌≡◌, ℕ, ◌+◌, ◌*◌, ◌/◌, ◌%◌, ◌^◌, ◌<◌, ◌≤◌, ◌==◌, ◌&&◌, nat_le, nat_lt, Bool, true, false, cond, ℤ, pos, negsuc, neg_ℤ, [], ◌∷◌, ◌++◌, length, Option, Some, None, Ok, refl, sym, ap, ◌∙◌, arith, add-one}
use Rattle.std.specs.Prelude.{decimal, option_map, option_and_then}
use Rattle.std.specs.List.{list_any, list_all}
use Rattle.std.specs.Char.{is_ascii_digit}
use Rattle.std.proofs.lemmas.Bool.{and_from, and_parts, le-leb, lt-ltb, eq-eqb, eqb-true}
use Rattle.std.proofs.lemmas.Bool.Decides.{nat_tests}
use Rattle.std.proofs.lemmas.List.{append-nil}
use Rattle.std.proofs.lemmas.Fmt.{decimal_is_IsNumeral}
use Rattle.jiff_core.specs.Calendar.{days_in_month}
use Rattle.jiff_core.proofs.SignedLemmas.{signed_arith}
use Rattle.pq_words.specs.Text.{Text, padded, parted_at, digits_between}
use Rattle.pq_words.specs.Magnitude.{IsWithin}
use Rattle.pq_time.specs.Written.{CivilDate, TimeOfDay, is_civil_date, is_time_of_day, where_passes, date_of, date_of_parts, date_of_numbers, clock_time_of as time_of, time_of_parts, time_of_numbers, second_of, nanoseconds_of, minutes_of_numbers, minutes_of_parts, minutes_of, code_of}
use Rattle.pq_time.specs.Moment.{moment_at, moment_read, written_moment}
use Rattle.pq_time.specs.Printed.{date_shown, time_shown, hms_text}
use Rattle.pq_time.proofs.PrintedLemmas.{shows_moments}
use Rattle.comtrade_cfg.specs.Canonical.{date_text, time_text, fraction_text, offset_text, code_text}
use Rattle.cfg_fields.proofs.WrittenFacts.{IsClockTime}
use Rattle.comtrade_cfg.proofs.ConfigurationBounds.{IsCivil, civil, date_in, day_between, nanoseconds_bound}
use Rattle.cfg_fields.proofs.FieldTexts.{split_free, split_at, free_joined}
use Rattle.cfg_fields.proofs.ReadBackNumbers.{padded_back, padded_within, padded_digits, decimal_within, decimal_digits, digits_free, IsPlain, plain_padded, plain_joined}

-- ---- dates

padded_free : (c k n : ℕ) → is_ascii_digit c ≡ false → list_any (λ b. b == c) (padded k n) ≡ false
padded_free c k n other = digits_free c (padded k n) other (padded_digits k n)

-- three parts between separators
three_back : (c : ℕ) (a b d : Text) → list_any (λ x. x == c) a ≡ false → list_any (λ x. x == c) b ≡ false →
    list_any (λ x. x == c) d ≡ false → parted_at c (a ++ c ∷ (b ++ c ∷ d)) ≡ a ∷ b ∷ d ∷ []
three_back c a b d p q r =
    let same : (c == c) ≡ true = eq-eqb c c refl in
    split_at (λ x. x == c) a c (b ++ c ∷ d) p same ∙ ap (λ z. a ∷ z)
    (split_at (λ x. x == c) b c d q same ∙ ap (λ z. b ∷ z) (split_free (λ x. x == c) d r))

civil_again : (d : CivilDate) → IsCivil d → is_civil_date d ≡ true
civil_again d h =
    and_from (nat_le 1900 d.year && nat_le d.year 2199)
    ((nat_le 1 d.month && nat_le d.month 12) && (nat_le 1 d.day && nat_le d.day
    (days_in_month (pos d.year) d.month)))
    (and_from (nat_le 1900 d.year) (nat_le d.year 2199) (le-leb 1900 d.year h.from)
    (le-leb d.year 2199 h.until))
    (and_from (nat_le 1 d.month && nat_le d.month 12)
    (nat_le 1 d.day && nat_le d.day (days_in_month (pos d.year) d.month))
    (and_from (nat_le 1 d.month) (nat_le d.month 12) (le-leb 1 d.month h.month.0)
    (le-leb d.month 12 h.month.1))
    (and_from (nat_le 1 d.day) (nat_le d.day (days_in_month (pos d.year) d.month)) (le-leb 1 d.day h.day.0)
    (le-leb d.day (days_in_month (pos d.year) d.month) h.day.1)))

passes_again : {A : Type 0} (test : A → Bool) (x : A) → test x ≡ true → where_passes test x ≡ Some x
passes_again {A} test x h = ap (λ b. cond {A = Option A} b (Some x) None) h

month_few : (b c d e : Bool) → cond b (cond c 29 28) (cond d 30 31) ≤ 31
month_few true true d e = omega arith
month_few true false d e = omega arith
month_few false c true e = omega arith
month_few false c false e = omega arith

days_few : (year month : ℕ) → days_in_month (pos year) month ≤ 31
days_few year month = month_few _ _ _ true

-- a date from 1900 to 2199
pub date_back : (d : CivilDate) → IsCivil d → date_of (date_text d) ≡ Some d
unfolding date_of
date_back d h =
    let day : digits_between 1 2 (padded 2 d.day) ≡ Some d.day =
    padded_within 1 2 2 d.day (omega arith) (omega arith) (omega (arith, h.day, days_few d.year d.month))
    in
    let month : digits_between 1 2 (padded 2 d.month) ≡ Some d.month =
    padded_within 1 2 2 d.month (omega arith) (omega arith) (omega (arith, h.month)) in
    let year : digits_between 4 4 (padded 4 d.year) ≡ Some d.year =
    padded_back 4 d.year (omega (arith, h.until)) in
    ap date_of_parts (three_back 47 (padded 2 d.day) (padded 2 d.month) (padded 4 d.year)
    (padded_free 47 2 d.day refl) (padded_free 47 2 d.month refl) (padded_free 47 4 d.year refl))
    ∙ ap (λ o. option_and_then (λ day. option_and_then
    (λ month. option_and_then (λ year. date_of_numbers day month year)
    (digits_between 4 4 (padded 4 d.year))) (digits_between 1 2 (padded 2 d.month))) o) day
    ∙ ap (λ o. option_and_then (λ month. option_and_then (λ year. date_of_numbers d.day month year)
    (digits_between 4 4 (padded 4 d.year))) o) month
    ∙ ap (λ o. option_and_then (λ year. date_of_numbers d.day d.month year) o) year
    ∙ passes_again is_civil_date d (civil_again d h)

-- ---- times

clock_again : (t : TimeOfDay) → IsClockTime t → is_time_of_day t ≡ true
clock_again t h =
    and_from (nat_lt t.hour 24) (nat_lt t.minute 60 && nat_lt t.second 60) (lt-ltb t.hour 24 h.hour)
    (and_from (nat_lt t.minute 60) (nat_lt t.second 60) (lt-ltb t.minute 60 h.minute)
    (lt-ltb t.second 60 h.second))

-- the fraction of a second
fraction_back : (n : ℕ) → n < 10 ^ 9 → nanoseconds_of (fraction_text n) ≡ Some n
fraction_back n small = at (n % 1000 == 0) refl
  where
    at : (b : Bool) → (n % 1000 == 0) ≡ b → nanoseconds_of (cond b (padded 6 (n / 1000)) (padded 9 n))
        ≡ Some n
    at true is =
        let whole : n / 1000 * 1000 ≡ n = omega (arith, eqb-true (n % 1000) 0 is) in
        ap (option_map (λ k. k * 1000)) (padded_within 1 9 6 (n / 1000) (omega arith) (omega arith)
        (omega (arith, small))) ∙ ap Some whole
    at false is =
        let whole : n * 1 ≡ n = omega arith in
        ap (option_map (λ k. k * 1)) (padded_within 1 9 9 n (omega arith) (omega arith) small) ∙ ap Some whole

fraction_free : (c n : ℕ) → is_ascii_digit c ≡ false → list_any (λ b. b == c) (fraction_text n) ≡ false
fraction_free c n other = at (n % 1000 == 0)
  where
    at : (b : Bool) → list_any (λ b. b == c) (cond b (padded 6 (n / 1000)) (padded 9 n)) ≡ false
    at true = padded_free c 6 (n / 1000) other
    at false = padded_free c 9 n other

-- a time of day
pub time_back : (t : TimeOfDay) → IsClockTime t → time_of (time_text t) ≡ Some t
unfolding time_of
time_back t h =
    let hour : digits_between 1 2 (padded 2 t.hour) ≡ Some t.hour =
    padded_within 1 2 2 t.hour (omega arith) (omega arith) (omega (arith, h.hour)) in
    let minute : digits_between 1 2 (padded 2 t.minute) ≡ Some t.minute =
    padded_within 1 2 2 t.minute (omega arith) (omega arith) (omega (arith, h.minute)) in
    let second : digits_between 1 2 (padded 2 t.second) ≡ Some t.second =
    padded_within 1 2 2 t.second (omega arith) (omega arith) (omega (arith, h.second)) in
    let seconds : Text = padded 2 t.second ++ 46 ∷ fraction_text t.nanosecond in
    let parts : parted_at 46 seconds ≡ padded 2 t.second ∷ fraction_text t.nanosecond ∷ [] =
    split_at (λ x. x == 46) (padded 2 t.second) 46 (fraction_text t.nanosecond)
    (padded_free 46 2 t.second refl) refl ∙ ap (λ z. padded 2 t.second ∷ z)
    (split_free (λ x. x == 46) (fraction_text t.nanosecond) (fraction_free 46 t.nanosecond refl)) in
    let of_second : second_of (parted_at 46 seconds) ≡ Some (t.second, t.nanosecond) =
    ap second_of parts ∙ ap (λ o. option_and_then (λ (s : ℕ). option_map (λ (n : ℕ). (s, n))
    (nanoseconds_of (fraction_text t.nanosecond))) o) second
    ∙ ap (λ o. option_map (λ (n : ℕ). (t.second, n)) o) (fraction_back t.nanosecond h.nanosecond) in
    let free : list_any (λ x. x == 58) seconds ≡ false = seconds_free t in
    ap time_of_parts (three_back 58 (padded 2 t.hour) (padded 2 t.minute) seconds
    (padded_free 58 2 t.hour refl) (padded_free 58 2 t.minute refl) free)
    ∙ ap (λ o. option_and_then (λ hour. option_and_then
    (λ minute. option_and_then (λ second. time_of_numbers hour minute second)
    (second_of (parted_at 46 seconds))) (digits_between 1 2 (padded 2 t.minute))) o) hour
    ∙ ap (λ o. option_and_then (λ minute. option_and_then (λ second. time_of_numbers t.hour minute second)
    (second_of (parted_at 46 seconds))) o) minute
    ∙ ap (λ o. option_and_then (λ second. time_of_numbers t.hour t.minute second) o) of_second
    ∙ passes_again is_time_of_day t (clock_again t h)
  where
    seconds_free : (t : TimeOfDay) → list_any (λ x. x == 58)
        (padded 2 t.second ++ 46 ∷ fraction_text t.nanosecond) ≡ false
    seconds_free t = free_joined 58 (padded 2 t.second) (46 ∷ fraction_text t.nanosecond)
        (padded_free 58 2 t.second refl) (fraction_free 58 t.nanosecond refl)

-- ---- the moment of a date and a time shows them

shown_again : (d : CivilDate) (t : TimeOfDay) → IsCivil d → IsClockTime t → (d ≡ date_shown (moment_at d t)) ×
    (t ≡ time_shown (moment_at d t))
shown_again d t civil clock =
    let between = day_between d civil in
    let less = nanoseconds_bound t clock in
    let within : IsWithin (2 ^ 63) (moment_at d t) = (
      omega (arith, signed_arith, between, less),
      omega (arith, signed_arith, between, less),
    ) in
    let date = date_in d civil in
    (shows_moments (moment_at d t) d t within).0 (record {
      date = (date.year_in, date.month_in, date.day_in);
      hour = clock.hour;
      minute = clock.minute;
      second = clock.second;
      nanosecond = clock.nanosecond;
      both = refl;
    })

pub date_again : (d : CivilDate) (t : TimeOfDay) → IsCivil d → IsClockTime t → date_shown (moment_at d t) ≡ d
date_again d t civil clock = sym (shown_again d t civil clock).0

pub time_again : (d : CivilDate) (t : TimeOfDay) → IsCivil d → IsClockTime t → time_shown (moment_at d t) ≡ t
time_again d t civil clock = sym (shown_again d t civil clock).1

-- the moment of what was printed of a moment
pub moment_back : (d : CivilDate) (t : TimeOfDay) → IsCivil d → IsClockTime t
    → written_moment (date_text (date_shown (moment_at d t))) (time_text (time_shown (moment_at d t)))
    ≡ Ok (moment_at d t)
unfolding written_moment
moment_back d t civil clock =
    ap (λ z. moment_read (date_of (date_text z)) (time_of (time_text (time_shown (moment_at d t)))))
    (date_again d t civil clock)
    ∙ ap (λ z. moment_read (date_of (date_text d)) (time_of (time_text z))) (time_again d t civil clock)
    ∙ ap (λ o. moment_read o (time_of (time_text t))) (date_back d civil)
    ∙ ap (moment_read (Some d)) (time_back t clock)

-- what is printed of a moment is plain
pub plain_date : (d : CivilDate) → IsPlain (date_text d)
plain_date d = plain_joined (padded 2 d.day ++ 47 ∷ padded 2 d.month) (47 ∷ padded 4 d.year)
    (plain_joined (padded 2 d.day) (47 ∷ padded 2 d.month) (plain_padded 2 d.day) (plain_padded 2 d.month))
    (plain_padded 4 d.year)

plain_fraction : (n : ℕ) → IsPlain (fraction_text n)
plain_fraction n = at (n % 1000 == 0)
  where
    at : (b : Bool) → IsPlain (cond b (padded 6 (n / 1000)) (padded 9 n))
    at true = plain_padded 6 (n / 1000)
    at false = plain_padded 9 n

pub plain_time : (t : TimeOfDay) → IsPlain (time_text t)
plain_time t =
    plain_joined (hms_text t) (46 ∷ fraction_text t.nanosecond)
    (plain_joined (padded 2 t.hour ++ 58 ∷ padded 2 t.minute) (58 ∷ padded 2 t.second)
    (plain_joined (padded 2 t.hour) (58 ∷ padded 2 t.minute) (plain_padded 2 t.hour)
    (plain_padded 2 t.minute)) (plain_padded 2 t.second))
    (plain_fraction t.nanosecond)

-- ---- time codes

minutes_numbers : (h m : ℕ) → h ≤ 14 → m < 60 → minutes_of_numbers h m ≡ Some (60 * h + m)
minutes_numbers h m few small = ap (λ b. cond b (Some (60 * h + m)) None)
    (and_from (nat_le h 14) (nat_lt m 60) (le-leb h 14 few) (lt-ltb m 60 small))

-- the minutes of an offset
minutes_back : (m : ℕ) → m ≤ 899 → minutes_of (offset_text m) ≡ Some m
unfolding minutes_of
minutes_back m few = at (m % 60 == 0) refl
  where
    hours : digits_between 1 2 (decimal (m / 60)) ≡ Some (m / 60)
    hours = decimal_within 2 (m / 60) (omega arith) (omega (arith, few)) (omega (arith, few))

    free : list_any (λ b. b == 104) (decimal (m / 60)) ≡ false
    free = digits_free 104 (decimal (m / 60)) refl (decimal_digits (m / 60) (omega (arith, few)))

    at : (b : Bool) → (m % 60 == 0) ≡ b → minutes_of_parts
        (parted_at 104 (decimal (m / 60) ++ cond b [] (104 ∷ padded 2 (m % 60)))) ≡ Some m
    at true is =
        let rest : m % 60 ≡ 0 = eqb-true (m % 60) 0 is in
        let whole : 60 * (m / 60) + 0 ≡ m = omega (arith, rest) in
        ap (λ t. minutes_of_parts (parted_at 104 t)) (append-nil (decimal (m / 60)))
        ∙ ap minutes_of_parts (split_free (λ b. b == 104) (decimal (m / 60)) free)
        ∙ ap (option_and_then (λ h. minutes_of_numbers h 0)) hours
        ∙ minutes_numbers (m / 60) 0 (omega (arith, few)) (omega arith) ∙ ap Some whole
    at false is =
        let whole : 60 * (m / 60) + m % 60 ≡ m = omega arith in
        let rest : digits_between 2 2 (padded 2 (m % 60)) ≡ Some (m % 60) =
        padded_back 2 (m % 60) (omega arith) in
        ap minutes_of_parts (split_at (λ b. b == 104) (decimal (m / 60)) 104 (padded 2 (m % 60)) free refl
        ∙ ap (λ z. decimal (m / 60) ∷ z) (split_free (λ b. b == 104) (padded 2 (m % 60))
        (padded_free 104 2 (m % 60) refl)))
        ∙ ap (option_and_then (λ h. option_and_then (λ k. minutes_of_numbers h k)
        (digits_between 2 2 (padded 2 (m % 60))))) hours
        ∙ ap (option_and_then (λ k. minutes_of_numbers (m / 60) k)) rest
        ∙ minutes_numbers (m / 60) (m % 60) (omega (arith, few)) (omega arith) ∙ ap Some whole

-- a text that begins with a digit
pub record BeginsWithDigit (text : Text) : Type 0 where
  pub first : ℕ
  pub rest : Text
  pub is : text ≡ first ∷ rest
  pub digit : is_ascii_digit first ≡ true

pub decimal_begins : (n : ℕ) (rest : Text) → n < 2 ^ 64 → BeginsWithDigit (decimal n ++ rest)
decimal_begins n rest small = at (decimal n) refl
  where
    at : (ds : Text) → decimal n ≡ ds → BeginsWithDigit (ds ++ rest)
    at [] is = absurd (let some = (decimal_is_IsNumeral n small).0.0 in let none : length (decimal n) ≡ 0 =
        ap length is in omega (arith, some, none))
    at (d ∷ ds) is = record {
      first = d;
      rest = ds ++ rest;
      is = refl;
      digit =
          (and_parts (is_ascii_digit d) (list_all is_ascii_digit ds)
          (sym (ap (list_all is_ascii_digit) is) ∙ decimal_digits n small)).0;
    }

code_of_digits : (text : Text) → BeginsWithDigit text → code_of text ≡ option_map pos (minutes_of text)
unfolding code_of
code_of_digits text b =
    let minus : (b.first == 45) ≡ false = apart b.first 45 refl b.digit in
    let plus : (b.first == 43) ≡ false = apart b.first 43 refl b.digit in
    ap code_of b.is
    ∙ ap (λ c. cond c (option_map (λ (n : ℕ). neg_ℤ (pos n)) (minutes_of b.rest))
    (option_map pos (minutes_of (cond (b.first == 43) b.rest (b.first ∷ b.rest))))) minus
    ∙ ap (λ c. option_map pos (minutes_of (cond c b.rest (b.first ∷ b.rest)))) plus
    ∙ ap (λ t. option_map pos (minutes_of t)) (sym b.is)
  where
    apart : (d c : ℕ) → is_ascii_digit c ≡ false → is_ascii_digit d ≡ true → (d == c) ≡ false
    apart d c p q = grind (arith, nat_tests, p, q)

-- a time code
pub code_back : (z : ℤ) → IsWithin 899 z → code_of (code_text z) ≡ Some z
unfolding code_of
code_back (pos m) h =
    let few : m ≤ 899 = omega (arith, signed_arith, h) in
    code_of_digits (offset_text m) (decimal_begins (m / 60) _ (omega (arith, few)))
    ∙ ap (option_map pos) (minutes_back m few)
code_back (negsuc n) h =
    let few : n + 1 ≤ 899 = omega (arith, signed_arith, h) in
    ap (option_map (λ (k : ℕ). neg_ℤ (pos k))) (minutes_back (n + 1) few)
    ∙ ap (λ k. Some (neg_ℤ (pos k))) (add-one n)
