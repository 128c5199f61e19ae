-- Numbers that were printed are read back.
use Rattle.std.proofs.Common.{◌≡◌, ℕ, zero, suc, ◌+◌, ◌-◌, ◌*◌, ◌/◌, ◌%◌, ◌^◌, ◌<◌, ◌≤◌, ◌==◌, ◌||◌, ◌&&◌, nat_le, not, Bool, true, false, cond, [], ◌∷◌, ◌++◌, take, get_or, length, Some, None, refl, sym, ap, ◌∙◌, arith, add-one}
use Rattle.std.specs.Prelude.{decimal}
use Rattle.std.specs.List.{list_any, list_all}
use Rattle.std.specs.Char.{is_ascii_digit, digit_value}
use Rattle.std.specs.Str.Parse.{AllDigits, digits_value, digits_value_after}
use Rattle.std.proofs.lemmas.Bool.{and_from, and_parts, eq-eqb, le-leb}
use Rattle.std.proofs.lemmas.Bool.Decides.{nat_tests}
use Rattle.std.proofs.lemmas.Fmt.{decimal_is_IsNumeral, length-decimal-le}
use Rattle.std.proofs.lemmas.List.{length-append, take-append-le, take_all, get_or-append-add}
use Rattle.std.proofs.lemmas.List.Folds.{list_all-append}
use Rattle.std.proofs.lemmas.Str.Parse.{digit_from_value}
use Rattle.pq_base.proofs.DigitsLemmas.{next_power, digits_joined}
use Rattle.pq_words.specs.Text.{Text, is_blank, padded, digits_between, number}
use Rattle.cfg_fields.specs.Fields.{lettered}
use Rattle.cfg_fields.proofs.FieldTexts.{IsFree, IsField}

-- ---- digits

digit_test : (c : ℕ) → digit_value c < 10 → is_ascii_digit c ≡ true
digit_test c small = let range = digit_from_value c small in grind (arith, nat_tests, range)

-- digits as a test says them
pub tested_digits : (text : Text) → AllDigits 10 text → list_all is_ascii_digit text ≡ true
tested_digits [] h = refl
tested_digits (c ∷ text) h = and_from (is_ascii_digit c) (list_all is_ascii_digit text) (digit_test c h.0)
    (tested_digits text h.1)

-- digits that are few and many enough
pub digits_back : (least most : ℕ) (text : Text) (n : ℕ) → least ≤ length text → length text ≤ most →
    list_all is_ascii_digit text ≡ true → digits_value 10 text ≡ n → digits_between least most text ≡ Some n
digits_back least most text n enough few digits value =
    ap (λ b. cond b (Some (digits_value 10 text)) None)
    (and_from (nat_le least (length text)) (nat_le (length text) most && list_all is_ascii_digit text)
    (le-leb least (length text) enough)
    (and_from (nat_le (length text) most) (list_all is_ascii_digit text) (le-leb (length text) most few)
    digits))
    ∙ ap Some value

digit_of_rest : (n : ℕ) → (is_ascii_digit (48 + n % 10) ≡ true) × (digit_value (48 + n % 10) ≡ n % 10)
digit_of_rest n = let small : n % 10 < 10 = omega arith in
    (grind (arith, nat_tests, small), grind (arith, nat_tests, small))

-- ---- a number of so many digits

pub length-padded : (k n : ℕ) → length (padded k n) ≡ k
length-padded zero n = refl
length-padded (suc k) n = length-append (padded k (n / 10)) ((48 + n % 10) ∷ [])
    ∙ ap (λ m. m + 1) (length-padded k (n / 10)) ∙ add-one k

pub padded_digits : (k n : ℕ) → list_all is_ascii_digit (padded k n) ≡ true
padded_digits zero n = refl
padded_digits (suc k) n =
    list_all-append is_ascii_digit (padded k (n / 10)) ((48 + n % 10) ∷ [])
    ∙ and_from (list_all is_ascii_digit (padded k (n / 10))) (is_ascii_digit (48 + n % 10) && true)
    (padded_digits k (n / 10)) (and_from (is_ascii_digit (48 + n % 10)) true (digit_of_rest n).0 refl)

-- the number that its digits write after those of another
pub padded_after : (k front n : ℕ) → n < 10 ^ k → digits_value_after 10 front (padded k n)
    ≡ front * 10 ^ k + n
padded_after zero front n small = omega (arith, small)
padded_after (suc k) front n small =
    let power : 10 ^ suc k ≡ 10 * 10 ^ k = ap (λ m. 10 ^ m) (sym (add-one k)) ∙ next_power k in
    let less : n / 10 < 10 ^ k = omega (arith, small, power) in
    let digit : digit_value (48 + n % 10) ≡ n % 10 = (digit_of_rest n).1 in
    let front_value : digits_value_after 10 front (padded k (n / 10)) ≡ front * 10 ^ k + n / 10 =
    padded_after k front (n / 10) less in
    digits_joined front (padded k (n / 10)) ((48 + n % 10) ∷ [])
    ∙ omega (arith, front_value, digit, ap (λ p. front * p) power)

pub padded_back : (k n : ℕ) → n < 10 ^ k → digits_between k k (padded k n) ≡ Some n
padded_back k n small = digits_back k k (padded k n) n (omega (arith, length-padded k n))
    (omega (arith, length-padded k n)) (padded_digits k n) (padded_after k 0 n small ∙ omega arith)

-- also where fewer digits would do
pub padded_within : (least most k n : ℕ) → least ≤ k → k ≤ most → n < 10 ^ k →
    digits_between least most (padded k n) ≡ Some n
padded_within least most k n enough few small =
    digits_back least most (padded k n) n (omega (arith, length-padded k n, enough))
    (omega (arith, length-padded k n, few)) (padded_digits k n) (padded_after k 0 n small ∙ omega arith)

-- ---- a number without leading zeros

pub decimal_digits : (n : ℕ) → n < 2 ^ 64 → list_all is_ascii_digit (decimal n) ≡ true
decimal_digits n small = tested_digits (decimal n) (decimal_is_IsNumeral n small).0.1

pub decimal_within : (most n : ℕ) → 0 < most → n < 10 ^ most → n < 2 ^ 64 → digits_between 1 most (decimal n)
    ≡ Some n
decimal_within most n some small fits =
    digits_back 1 most (decimal n) n (decimal_is_IsNumeral n fits).0.0
    (length-decimal-le most n some small fits) (decimal_digits n fits) (decimal_is_IsNumeral n fits).1

pub number_back : (n : ℕ) → n < 10 ^ 10 → number (decimal n) ≡ Some n
number_back n small = decimal_within 10 n (omega arith) small (omega (arith, small))

-- ---- a number with its letter

pub lettered_back : (capital n : ℕ) → n < 10 ^ 10 → lettered capital (decimal n ++ capital ∷ []) ≡ Some n
lettered_back capital n small =
    let text : Text = decimal n ++ capital ∷ [] in
    let size : length text - 1 ≡ length (decimal n) =
    omega (arith, length-append (decimal n) (capital ∷ [])) in
    let zero : length (decimal n) + 0 ≡ length (decimal n) = omega arith in
    let last : get_or text (length (decimal n)) 0 ≡ capital = ap (λ k. get_or text k 0) (sym zero)
    ∙ get_or-append-add (decimal n) (capital ∷ []) 0 0 in
    let front : take (length (decimal n)) text ≡ decimal n =
    take-append-le (length (decimal n)) (decimal n) (capital ∷ []) (omega arith)
    ∙ take_all (length (decimal n)) (decimal n) (omega arith) in
    let same : (capital == capital) ≡ true = eq-eqb capital capital refl in
    ap (λ k. cond ((get_or text k 0 == capital) || (get_or text k 0 == capital + 32)) (number (take k text))
    None) size
    ∙ ap (λ c. cond ((c == capital) || (c == capital + 32)) (number (take (length (decimal n)) text)) None)
    last
    ∙ ap (λ b. cond (b || (capital == capital + 32)) (number (take (length (decimal n)) text)) None) same
    ∙ ap number front ∙ number_back n small

-- ---- bytes that fields may have

-- no comma, no line feed, no blank
abbrev pub is_plain : ℕ → Bool
is_plain c = not ((c == 44) || ((c == 10) || is_blank c))

-- all bytes are plain
abbrev pub IsPlain : Text → Type 0
IsPlain text = list_all is_plain text ≡ true

plain_tests : (c : ℕ) → is_plain c ≡ true → ((c == 44) ≡ false) × ((c == 10) ≡ false) × (is_blank c ≡ false)
plain_tests c h = grind (arith, nat_tests, h)

plain_free : (text : Text) → IsPlain text → IsFree 44 text × IsFree 10 text
plain_free [] h = (refl, refl)
plain_free (c ∷ text) h =
    let p = and_parts (is_plain c) (list_all is_plain text) h in
    let t = plain_tests c p.0 in
    let more = plain_free text p.1 in (
      ap (λ b. b || list_any (λ b. b == 44) text) t.0 ∙ more.0,
      ap (λ b. b || list_any (λ b. b == 10) text) t.1
          ∙ more.1,
    )

plain_at : (text : Text) (i : ℕ) → i < length text → IsPlain text → is_blank (get_or text i 0) ≡ false
plain_at [] i inside h = absurd (omega (arith, inside))
plain_at (c ∷ text) zero inside h = (plain_tests c (and_parts (is_plain c) (list_all is_plain text) h).0).2
plain_at (c ∷ text) (suc i) inside h = plain_at text i (omega (arith, inside))
    (and_parts (is_plain c) (list_all is_plain text) h).1

-- plain bytes are a field
pub plain_field : (text : Text) → IsPlain text → IsField text
plain_field text h = record {
  comma = (plain_free text h).0;
  line_feed = (plain_free text h).1;
  trim = record {
    front = λ some. plain_at text 0 some h;
    back =
        λ some. plain_at text (length text - 1) (omega (arith, some)) h;
  };
}

plain_digit : (c : ℕ) → is_ascii_digit c ≡ true → is_plain c ≡ true
plain_digit c h = grind (arith, nat_tests, h)

-- digits are plain
pub plain_digits : (text : Text) → list_all is_ascii_digit text ≡ true → IsPlain text
plain_digits [] h = refl
plain_digits (c ∷ text) h =
    let p = and_parts (is_ascii_digit c) (list_all is_ascii_digit text) h in
    and_from (is_plain c) (list_all is_plain text) (plain_digit c p.0) (plain_digits text p.1)

pub plain_joined : (xs ys : Text) → IsPlain xs → IsPlain ys → IsPlain (xs ++ ys)
plain_joined xs ys p q = list_all-append is_plain xs ys
    ∙ and_from (list_all is_plain xs) (list_all is_plain ys) p q

pub plain_decimal : (n : ℕ) → n < 2 ^ 64 → IsPlain (decimal n)
plain_decimal n small = plain_digits (decimal n) (decimal_digits n small)

pub plain_padded : (k n : ℕ) → IsPlain (padded k n)
plain_padded k n = plain_digits (padded k n) (padded_digits k n)

-- digits hold no byte that is no digit
pub digits_free : (c : ℕ) (text : Text) → is_ascii_digit c ≡ false → list_all is_ascii_digit text ≡ true →
    IsFree c text
digits_free c [] other h = refl
digits_free c (d ∷ text) other h =
    let p = and_parts (is_ascii_digit d) (list_all is_ascii_digit text) h in
    let apart : (d == c) ≡ false = digit_apart c d other p.0 in
    ap (λ b. b || list_any (λ b. b == c) text) apart ∙ digits_free c text other p.1
  where
    digit_apart : (c d : ℕ) → is_ascii_digit c ≡ false → is_ascii_digit d ≡ true → (d == c) ≡ false
    digit_apart c d p q = grind (arith, nat_tests, p, q)
