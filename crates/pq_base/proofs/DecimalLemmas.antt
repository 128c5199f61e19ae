-- The parts of a decimal: no second exponent mark, and no second point.
use Rattle.std.proofs.Common.{◌≡◌, ℕ, Bool, true, false, ◌&&◌, ◌||◌, ◌==◌, if◌then◌else◌, [], ◌∷◌, ◌++◌, length, ℤ, pos, ◌-ℤ◌, None, option_map, refl, sym, ap, ◌∙◌, inl, inr, ◌⊎◌, arith}
use Rattle.std.specs.Prelude.{option_and_then}
use Rattle.std.proofs.lemmas.Bool.Decides.{nat_tests}
use Rattle.std.proofs.lemmas.List.Folds.{list_all-append}
use Rattle.std.specs.Char.{is_ascii_digit}
use Rattle.std.specs.List.{list_all, list_any, slice_split}
use Rattle.pq_base.proofs.CutLemmas.{More, parts_of}
use Rattle.pq_base.proofs.DigitsLemmas.{digits_none}
use Rattle.pq_base.specs.Decimal.{decimal_of, exponent_of, is_exponent_mark, mantissa_of, scaled_by, signed_text, unsigned_decimal, with_sign}
use Rattle.pq_words.specs.Text.{Text, parted_at}

-- where a byte passes that is no digit, not all bytes are digits
module _ (p : ℕ → Bool) (apart : (c : ℕ) → (p c && is_ascii_digit c) ≡ false) where
  no_digits_step : (a d rest all : Bool) → (a && d) ≡ false → (a || rest) ≡ true → (rest ≡ true → all ≡ false)
      → (d && all) ≡ false
  no_digits_step true false rest all is some more = refl
  no_digits_step true true rest all is some more = cc
  no_digits_step false true rest all is some more = more some
  no_digits_step false false rest all is some more = refl

  no_digits : (xs : Text) → list_any p xs ≡ true → list_all is_ascii_digit xs ≡ false
  no_digits [] some = cc
  no_digits (x ∷ xs) some = no_digits_step (p x) (is_ascii_digit x) (list_any p xs)
      (list_all is_ascii_digit xs) (apart x) some (no_digits xs)

mark_apart : (c : ℕ) → (is_exponent_mark c && is_ascii_digit c) ≡ false
mark_apart c = grind (arith, nat_tests)

point_apart : (c : ℕ) → ((c == 46) && is_ascii_digit c) ≡ false
point_apart c = grind (arith, nat_tests)

-- a sign is no exponent mark
mark_after_sign : (c : ℕ) (text : Text) (minus plus : Bool) → (c == 45) ≡ minus → (c == 43) ≡ plus →
    (is_exponent_mark c || list_any is_exponent_mark text) ≡ true
    → (let s : Bool × Text = if minus then (true, text) else
    (if plus then (false, text) else (false, c ∷ text)) in list_any is_exponent_mark s.1 ≡ true)
mark_after_sign c text true plus is also some = let none : is_exponent_mark c ≡ false =
    grind (arith, nat_tests) in ap (λ b. b || list_any is_exponent_mark text) (sym none) ∙ some
mark_after_sign c text false true is also some = let none : is_exponent_mark c ≡ false =
    grind (arith, nat_tests) in ap (λ b. b || list_any is_exponent_mark text) (sym none) ∙ some
mark_after_sign c text false false is also some = some

mark_unsigned : (text : Text) → list_any is_exponent_mark text ≡ true →
    list_any is_exponent_mark (signed_text text).1 ≡ true
mark_unsigned [] some = some
mark_unsigned (c ∷ text) some = mark_after_sign c text (c == 45) (c == 43) refl refl some

no_exponent : (text : Text) → list_any is_exponent_mark text ≡ true → exponent_of text ≡ None
no_exponent text some =
    ap (option_map (with_sign (signed_text text).0))
    (digits_none 1 3 (signed_text text).1 (no_digits is_exponent_mark mark_apart (signed_text text).1
    (mark_unsigned text some)))

exponent_parts : (negative : Bool) (mantissa rest : Text) →
    (slice_split is_exponent_mark rest ≡ rest ∷ []) ⊎ More (slice_split is_exponent_mark rest)
    (list_any is_exponent_mark rest)
    → unsigned_decimal negative (mantissa ∷ slice_split is_exponent_mark rest)
    ≡ option_and_then (mantissa_of negative (parted_at 46 mantissa)) (exponent_of rest)
exponent_parts negative mantissa rest (inl one) = ap (λ parts. unsigned_decimal negative (mantissa ∷ parts))
    one
exponent_parts negative mantissa rest (inr more) =
    ap (λ parts. unsigned_decimal negative (mantissa ∷ parts)) more.is
    ∙ sym (ap (option_and_then (mantissa_of negative (parted_at 46 mantissa)))
    (no_exponent rest more.some))

-- what stands after the first exponent mark is the exponent
pub with_exponent : (negative : Bool) (mantissa rest : Text)
    → unsigned_decimal negative (mantissa ∷ slice_split is_exponent_mark rest)
    ≡ option_and_then (mantissa_of negative (parted_at 46 mantissa)) (exponent_of rest)
with_exponent negative mantissa rest = exponent_parts negative mantissa rest (parts_of is_exponent_mark rest)

not_both : (b : Bool) → (b && false) ≡ false
not_both true = refl
not_both false = refl

no_fraction : (negative : Bool) (whole fraction : Text) (exponent : ℤ) → list_any (λ c. c == 46) fraction
    ≡ true → scaled_by negative whole fraction exponent ≡ None
no_fraction negative whole fraction exponent some =
    let digits : list_all is_ascii_digit (whole ++ fraction) ≡ false
    = list_all-append is_ascii_digit whole fraction ∙
    (ap (λ b. list_all is_ascii_digit whole && b) (no_digits (λ c. c == 46) point_apart fraction some)
    ∙ not_both (list_all is_ascii_digit whole)) in
    ap (option_map (λ n. record {
      negative = negative;
      digits = n;
      exponent =
          exponent -ℤ pos (length fraction);
    })) (digits_none 1 32 (whole ++ fraction) digits)

fraction_parts : (negative : Bool) (whole fraction : Text) (exponent : ℤ) →
    (parted_at 46 fraction ≡ fraction ∷ []) ⊎ More (parted_at 46 fraction) (list_any (λ c. c == 46) fraction)
    → mantissa_of negative (whole ∷ parted_at 46 fraction) exponent
    ≡ scaled_by negative whole fraction exponent
fraction_parts negative whole fraction exponent (inl one) =
    ap (λ parts. mantissa_of negative (whole ∷ parts) exponent) one
fraction_parts negative whole fraction exponent (inr more) =
    ap (λ parts. mantissa_of negative (whole ∷ parts) exponent) more.is
    ∙ sym (no_fraction negative whole fraction exponent more.some)

-- what stands after the first point is the fraction
pub with_fraction : (negative : Bool) (whole fraction : Text) (exponent : ℤ) →
    mantissa_of negative (whole ∷ parted_at 46 fraction) exponent ≡ scaled_by negative whole fraction exponent
with_fraction negative whole fraction exponent = fraction_parts negative whole fraction exponent
    (parts_of (λ c. c == 46) fraction)

-- a decimal, by the parts that its sign and its first exponent mark leave
module _ (text unsigned mantissa : Text) (negative : Bool) (sign : negative ≡ (signed_text text).0)
    (body : unsigned ≡ (signed_text text).1) where
  by_parts : decimal_of text ≡ unsigned_decimal negative (slice_split is_exponent_mark unsigned)
  unfolding decimal_of
  by_parts = ap (λ b. unsigned_decimal b (slice_split is_exponent_mark (signed_text text).1)) (sym sign)
      ∙ ap (λ u. unsigned_decimal negative (slice_split is_exponent_mark u)) (sym body)

  pub decimal_with : (rest : Text) → slice_split is_exponent_mark unsigned
      ≡ mantissa ∷ slice_split is_exponent_mark rest
      → decimal_of text ≡ option_and_then (mantissa_of negative (parted_at 46 mantissa)) (exponent_of rest)
  decimal_with rest cut = by_parts ∙ ap (unsigned_decimal negative) cut ∙ with_exponent negative mantissa rest

  pub decimal_without : slice_split is_exponent_mark unsigned ≡ mantissa ∷ [] → decimal_of text
      ≡ mantissa_of negative (parted_at 46 mantissa) (pos 0)
  decimal_without cut = by_parts ∙ ap (unsigned_decimal negative) cut
