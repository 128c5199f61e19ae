-- The digits that a moment shows are read as the numbers that they show.
use Rattle.std.proofs.Common.{◌≡◌, ℕ, zero, suc, ◌+◌, ◌/◌, ◌%◌, ◌^◌, ◌<◌, ◌≤◌, Bool, true, false, ◌&&◌, if◌then◌else◌, [], ◌∷◌, length, Some, None, refl, ap, ◌∙◌, arith}
use Rattle.std.proofs.lemmas.Bool.Decides.{nat_tests}
use Rattle.std.proofs.lemmas.List.{length-append}
use Rattle.std.proofs.lemmas.List.Folds.{list_all-append}
use Rattle.std.specs.Prelude.{nat_le}
use Rattle.std.specs.Char.{digit_value, is_ascii_digit}
use Rattle.std.specs.List.{list_all}
use Rattle.std.specs.Str.Parse.{digits_value, digits_value_after}
use Rattle.pq_base.proofs.DigitsLemmas.{digits_joined, next_power, value_of_digit}
use Rattle.pq_words.specs.Text.{digits_between, padded}

pub both : (a b : Bool) → a ≡ true → b ≡ true → (a && b) ≡ true
both true true e f = refl
both true false e f = f
both false b e f = e

all_digits : (k n : ℕ) → list_all is_ascii_digit (padded k n) ≡ true
all_digits zero n = refl
all_digits (suc k) n =
    let last : is_ascii_digit (48 + n % 10) ≡ true = grind (arith, nat_tests) in
    list_all-append is_ascii_digit (padded k (n / 10)) ((48 + n % 10) ∷ [])
    ∙ both (list_all is_ascii_digit (padded k (n / 10))) (is_ascii_digit (48 + n % 10) && true)
    (all_digits k (n / 10)) (both (is_ascii_digit (48 + n % 10)) true last refl)

length_padded : (k n : ℕ) → length (padded k n) ≡ k
length_padded zero n = refl
length_padded (suc k) n =
    let front = length_padded k (n / 10) in
    let whole = length-append (padded k (n / 10)) ((48 + n % 10) ∷ []) in
    omega (arith, front, whole)

value_padded : (k n : ℕ) → n < 10 ^ k → digits_value_after 10 0 (padded k n) ≡ n
value_padded zero n small = omega (arith, small)
value_padded (suc k) n small =
    let power = next_power k in
    let less : n / 10 < 10 ^ k = omega (arith, small, power) in
    let front = value_padded k (n / 10) less in
    let last : digit_value (48 + n % 10) ≡ n % 10 = value_of_digit (48 + n % 10) (omega arith) (omega arith)
    ∙ omega arith in
    let whole = digits_joined 0 (padded k (n / 10)) ((48 + n % 10) ∷ []) in
    omega (arith, front, last, whole)

-- a number, where the three tests hold
pub test_all : (a b c : Bool) (n m : ℕ) → a ≡ true → b ≡ true → c ≡ true → n ≡ m →
    (if a && (b && c) then Some n else None) ≡ Some m
test_all true true true n m e f g same = ap Some same
test_all true true false n m e f g same = absurd cc
test_all true false c n m e f g same = absurd cc
test_all false b c n m e f g same = absurd cc

-- k digits are read as the number
pub digits_padded : (k n : ℕ) → 1 ≤ k → n < 10 ^ k → digits_between 1 k (padded k n) ≡ Some n
digits_padded k n some small =
    let long = length_padded k n in
    let a : nat_le 1 (length (padded k n)) ≡ true = grind (arith, nat_tests, long, some) in
    let b : nat_le (length (padded k n)) k ≡ true = grind (arith, nat_tests, long) in
    test_all (nat_le 1 (length (padded k n))) (nat_le (length (padded k n)) k)
    (list_all is_ascii_digit (padded k n)) (digits_value 10 (padded k n)) n a b (all_digits k n)
    (value_padded k n small)
