-- A sampling rate, a time quality and a local code that were printed are read back.
use Rattle.std.proofs.Common.{◌≡◌, ℕ, ◌+◌, ◌*◌, ◌/◌, ◌%◌, ◌^◌, ◌<◌, ◌≤◌, ◌⊎◌, inl, inr, ◌==◌, ◌||◌, ◌&&◌, nat_lt, Bool, true, false, cond, ℤ, pos, negsuc, ◌-ℤ◌, [], ◌∷◌, ◌++◌, map, length, Option, Some, None, refl, sym, subst, ap, ◌∙◌, arith}
use lib.Pointwise.{pointwise}
use Rattle.std.specs.Prelude.{nat_eq, decimal, codes, option_map}
use Rattle.std.specs.Option.{ForSome}
use Rattle.std.specs.List.{list_any, list_all}
use Rattle.std.specs.Char.{is_ascii_digit, digit_value, to_ascii_lowercase}
use Rattle.std.specs.Str.{str_eq_ignore_ascii_case}
use Rattle.std.specs.Str.Parse.{digits_value, digits_value_after}
use Rattle.std.specs.Fmt.{digits}
use Rattle.std.proofs.lemmas.Bool.{and_from, and_parts, eqb-true, eqb-false, lt-ltb}
use Rattle.std.proofs.lemmas.Bool.Decides.{nat_tests}
use Rattle.std.proofs.lemmas.Fmt.{decimal_is_IsNumeral, length-decimal-le}
use Rattle.std.proofs.lemmas.List.{append-nil, length-append}
use Rattle.std.proofs.lemmas.List.Folds.{list_all-append, list_any-append}
use Rattle.jiff_core.proofs.SignedLemmas.{signed_arith}
use Rattle.pq_words.specs.Text.{Text, padded, parted_at, digits_between}
use Rattle.pq_words.specs.Magnitude.{IsWithin}
use Rattle.pq_base.specs.declared.decimal.Scaled.{Scaled}
use Rattle.pq_base.specs.Decimal.{decimal_of, signed_text, is_exponent_mark, mantissa_of, shifted}
use Rattle.pq_base.proofs.DecimalLemmas.{decimal_without}
use Rattle.pq_base.proofs.DigitsLemmas.{digits_joined}
use Rattle.pq_time.specs.Written.{code_of}
use Rattle.comtrade_cfg.specs.Canonical.{rate_text, hexadecimal_text, offset_text, code_text}
use Rattle.comtrade_cfg.specs.Canonical.{local_code_text}
use Rattle.cfg_fields.specs.Fields.{hexadecimal, leap_digit, local_code_of}
use Rattle.cfg_fields.proofs.FieldTexts.{split_free, split_at}
use Rattle.cfg_fields.proofs.ReadBackNumbers.{digits_back, decimal_digits, decimal_within, padded_digits, padded_after, digits_free, is_plain, IsPlain, plain_joined, plain_decimal, plain_padded}
use Rattle.comtrade_cfg.proofs.ReadBackMoments.{BeginsWithDigit, decimal_begins, code_back}

-- ---- decimals

signed_digits : (text : Text) → BeginsWithDigit text → signed_text text ≡ (false, text)
signed_digits text b =
    let minus : (b.first == 45) ≡ false = apart b.first 45 refl b.digit in
    let plus : (b.first == 43) ≡ false = apart b.first 43 refl b.digit in
    ap signed_text b.is
    ∙ ap (λ c. cond {A = Bool × Text} c (true, b.rest)
    (cond (b.first == 43) (false, b.rest) (false, b.first ∷ b.rest))) minus
    ∙ ap (λ c. cond {A = Bool × Text} c (false, b.rest) (false, b.first ∷ b.rest)) plus
    ∙ ap (λ t. (false, t)) (sym b.is)
  where
    apart : (d c : ℕ) → is_ascii_digit c ≡ false → is_ascii_digit d ≡ true → (d == c) ≡ false
    apart d c p q = grind (arith, nat_tests, p, q)

marks_apart : (c : ℕ) → is_ascii_digit c ≡ true → is_exponent_mark c ≡ false
marks_apart c h = grind (arith, nat_tests, h)

no_marks : (text : Text) → list_all is_ascii_digit text ≡ true → list_any is_exponent_mark text ≡ false
no_marks [] h = refl
no_marks (c ∷ text) h =
    let p = and_parts (is_ascii_digit c) (list_all is_ascii_digit text) h in
    ap (λ b. b || list_any is_exponent_mark text) (marks_apart c p.0) ∙ no_marks text p.1

-- a decimal of digits with a point at most
mantissa : (text : Text) → BeginsWithDigit text → list_any is_exponent_mark text ≡ false → decimal_of text
    ≡ mantissa_of false (parted_at 46 text) (pos 0)
mantissa text b none =
    let s = signed_digits text b in
    decimal_without text text text false (sym (ap (λ (p : Bool × Text). p.0) s))
    (sym (ap (λ (p : Bool × Text). p.1) s)) (split_free is_exponent_mark text none)

-- ---- the rate

-- a decimal that is so many microhertz
pub record IsRate (text : Text) (rate : ℕ) : Type 0 where
  pub value : Scaled
  pub is : decimal_of text ≡ Some value
  pub rounded : shifted value 6 ≡ pos rate

whole_rate : (w rate : ℕ) → w < 10 ^ 9 → w * 10 ^ 6 ≡ rate → IsRate (decimal w) rate
whole_rate w rate small same =
    let fits : w < 2 ^ 64 = omega (arith, small) in
    let digits = decimal_digits w fits in
    let joined : digits_between 1 32 (decimal w ++ []) ≡ Some w =
    ap (digits_between 1 32) (append-nil (decimal w))
    ∙ decimal_within 32 w (omega arith) (omega (arith, small)) fits in
    record {
      value = record { negative = false; digits = w; exponent = pos 0 -ℤ pos 0 };
      is = mantissa (decimal w) (subst BeginsWithDigit (append-nil (decimal w)) (decimal_begins w [] fits))
          (no_marks (decimal w) digits)
          ∙ ap (λ parts. mantissa_of false parts (pos 0))
          (split_free (λ b. b == 46) (decimal w) (digits_free 46 (decimal w) refl digits))
          ∙ ap (option_map (λ n. record { negative = false; digits = n; exponent = pos 0 -ℤ pos 0 })) joined;
      rounded = ap pos same;
    }

fraction_rate : (w rest rate : ℕ) → w < 10 ^ 9 → rest < 10 ^ 6 → w * 10 ^ 6 + rest ≡ rate →
    IsRate (decimal w ++ 46 ∷ padded 6 rest) rate
fraction_rate w rest rate small few same =
    let fits : w < 2 ^ 64 = omega (arith, small) in
    let whole = decimal_digits w fits in
    let size : length (decimal w ++ padded 6 rest) ≡ length (decimal w) + 6 =
    length-append (decimal w) (padded 6 rest) in
    let length_few : length (decimal w) ≤ 9 = length-decimal-le 9 w (omega arith) small fits in
    let value : digits_value 10 (decimal w ++ padded 6 rest) ≡ rate =
    digits_joined 0 (decimal w) (padded 6 rest) ∙ ap (λ n. digits_value_after 10 n (padded 6 rest))
    (decimal_is_IsNumeral w fits).1 ∙ padded_after 6 w rest few ∙ same in
    let joined : digits_between 1 32 (decimal w ++ padded 6 rest) ≡ Some rate =
    digits_back 1 32 (decimal w ++ padded 6 rest) rate (omega (arith, size)) (omega (arith, size, length_few))
    (list_all-append is_ascii_digit (decimal w) (padded 6 rest)
    ∙ and_from (list_all is_ascii_digit (decimal w)) (list_all is_ascii_digit (padded 6 rest)) whole
    (padded_digits 6 rest)) value in
    let one : rate * 1 ≡ rate = omega arith in
    record {
      value = record { negative = false; digits = rate; exponent = pos 0 -ℤ pos 6 };
      is = mantissa (decimal w ++ 46 ∷ padded 6 rest) (decimal_begins w (46 ∷ padded 6 rest) fits)
          (list_any-append is_exponent_mark (decimal w) (46 ∷ padded 6 rest)
          ∙ ap (λ b. b || list_any is_exponent_mark (padded 6 rest)) (no_marks (decimal w) whole)
          ∙ no_marks (padded 6 rest) (padded_digits 6 rest))
          ∙ ap (λ parts. mantissa_of false parts (pos 0))
          (split_at (λ b. b == 46) (decimal w) 46 (padded 6 rest) (digits_free 46 (decimal w) refl whole)
          refl
          ∙ ap (λ z. decimal w ∷ z) (split_free (λ b. b == 46) (padded 6 rest)
          (digits_free 46 (padded 6 rest) refl (padded_digits 6 rest))))
          ∙ ap (option_map (λ n. record { negative = false; digits = n; exponent = pos 0 -ℤ pos 6 })) joined;
      rounded = ap pos one;
    }

-- the rate, in hertz
pub rate_back : (rate : ℕ) → rate ≤ 200_000_000_000 → IsRate (rate_text rate) rate
rate_back rate few = at (rate % 10 ^ 6 == 0) refl
  where
    at : (b : Bool) → (rate % 10 ^ 6 == 0) ≡ b → IsRate
        (decimal (rate / 10 ^ 6) ++ cond b [] (46 ∷ padded 6 (rate % 10 ^ 6))) rate
    at true is =
        let none : rate % 10 ^ 6 ≡ 0 = eqb-true (rate % 10 ^ 6) 0 is in
        subst (λ t. IsRate t rate) (sym (append-nil (decimal (rate / 10 ^ 6))))
        (whole_rate (rate / 10 ^ 6) rate (omega (arith, few)) (omega (arith, none)))
    at false is = fraction_rate (rate / 10 ^ 6) (rate % 10 ^ 6) rate (omega (arith, few)) (omega arith)
        (omega arith)

pub plain_rate : (rate : ℕ) → rate ≤ 200_000_000_000 → IsPlain (rate_text rate)
plain_rate rate few = at (rate % 10 ^ 6 == 0)
  where
    at : (b : Bool) → IsPlain (decimal (rate / 10 ^ 6) ++ cond b [] (46 ∷ padded 6 (rate % 10 ^ 6)))
    at true = plain_joined (decimal (rate / 10 ^ 6)) [] (plain_decimal (rate / 10 ^ 6) (omega (arith, few)))
        refl
    at false = plain_joined (decimal (rate / 10 ^ 6)) (46 ∷ padded 6 (rate % 10 ^ 6))
        (plain_decimal (rate / 10 ^ 6) (omega (arith, few))) (plain_padded 6 (rate % 10 ^ 6))

-- ---- one hexadecimal digit

digit_of_ten : (n : ℕ) → n < 10 → (digit_value (48 + n) ≡ n) × (is_plain (48 + n) ≡ true)
digit_of_ten n small = (grind (arith, nat_tests, small), grind (arith, nat_tests, small))

letter_of_six : (n : ℕ) → 10 ≤ n → n < 16 → (digit_value (55 + n) ≡ n) × (is_plain (55 + n) ≡ true)
letter_of_six n large small = (grind (arith, nat_tests, large, small), grind (arith, nat_tests, large, small))

hexadecimal_digit : (n : ℕ) → n < 16 → (digit_value (cond (n / 10 == 0) (48 + n) (55 + n)) ≡ n) ×
    (is_plain (cond (n / 10 == 0) (48 + n) (55 + n)) ≡ true)
hexadecimal_digit n small = at (n / 10 == 0) refl
  where
    at : (b : Bool) → (n / 10 == 0) ≡ b → (digit_value (cond b (48 + n) (55 + n)) ≡ n) ×
        (is_plain (cond b (48 + n) (55 + n)) ≡ true)
    at true is = digit_of_ten n (omega (arith, eqb-true (n / 10) 0 is))
    at false is = letter_of_six n (let large : 10 ≤ n = large_from (eqb-false (n / 10) 0 is) in large) small
      where
        large_from : (n / 10 ≡ 0 → ⊥) → 10 ≤ n
        large_from h = grind (arith, h)

pub hexadecimal_back : (n : ℕ) → n < 16 → hexadecimal (hexadecimal_text n) ≡ Some n
hexadecimal_back n small =
    let c : ℕ = cond (n / 10 == 0) (48 + n) (55 + n) in
    let value : digit_value c ≡ n = (hexadecimal_digit n small).0 in
    ap (λ k. cond (nat_lt k 16) (Some k) None) value ∙ ap (λ b. cond b (Some n) None) (lt-ltb n 16 small)

pub plain_hexadecimal : (n : ℕ) → n < 16 → IsPlain (hexadecimal_text n)
plain_hexadecimal n small = and_from (is_plain (cond (n / 10 == 0) (48 + n) (55 + n))) true
    (hexadecimal_digit n small).1 refl

-- ---- the leap second digit

pub leap_back : (n : ℕ) → (n ≡ 0) ⊎ (n ≡ 3) → leap_digit (decimal n) ≡ Some n
unfolding digits
leap_back n (inl e) = subst (λ n. leap_digit (decimal n) ≡ Some n) (sym e) refl
leap_back n (inr e) = subst (λ n. leap_digit (decimal n) ≡ Some n) (sym e) refl

-- ---- a local code

not_x : (c : ℕ) (rest : Text) → is_ascii_digit c ≡ true → str_eq_ignore_ascii_case (c ∷ rest) (codes "x")
    ≡ false
not_x c rest h = ap (λ b. b && pointwise nat_eq (map to_ascii_lowercase rest) []) (apart c h)
  where
    apart : (c : ℕ) → is_ascii_digit c ≡ true → (to_ascii_lowercase c == 120) ≡ false
    apart c h = grind (arith, nat_tests, h)

code_not_x : (z : ℤ) → IsWithin 899 z → str_eq_ignore_ascii_case (code_text z) (codes "x") ≡ false
code_not_x (pos m) h =
    let b = decimal_begins (m / 60) (cond (m % 60 == 0) [] (104 ∷ padded 2 (m % 60)))
    (omega (arith, signed_arith, h)) in
    ap (λ t. str_eq_ignore_ascii_case t (codes "x")) b.is ∙ not_x b.first b.rest b.digit
code_not_x (negsuc n) h = refl

pub local_back : (code : Option ℤ) → ForSome code (IsWithin 899) → local_code_of (local_code_text code)
    ≡ Some code
local_back None h = refl
local_back (Some z) h =
    ap (λ b. cond b (Some None) (option_map (λ (z : ℤ). Some z) (code_of (code_text z))))
    (code_not_x z (h z refl))
    ∙ ap (option_map (λ (z : ℤ). Some z)) (code_back z (h z refl))

plain_offset : (m : ℕ) → m ≤ 899 → IsPlain (offset_text m)
plain_offset m few = at (m % 60 == 0)
  where
    at : (b : Bool) → IsPlain (decimal (m / 60) ++ cond b [] (104 ∷ padded 2 (m % 60)))
    at true = plain_joined (decimal (m / 60)) [] (plain_decimal (m / 60) (omega (arith, few))) refl
    at false = plain_joined (decimal (m / 60)) (104 ∷ padded 2 (m % 60))
        (plain_decimal (m / 60) (omega (arith, few))) (plain_padded 2 (m % 60))

pub plain_code : (z : ℤ) → IsWithin 899 z → IsPlain (code_text z)
plain_code (pos m) h = plain_offset m (omega (arith, signed_arith, h))
plain_code (negsuc n) h = plain_offset (n + 1) (omega (arith, signed_arith, h))

pub plain_local : (code : Option ℤ) → ForSome code (IsWithin 899) → IsPlain (local_code_text code)
plain_local None h = refl
plain_local (Some z) h = plain_code z (h z refl)
