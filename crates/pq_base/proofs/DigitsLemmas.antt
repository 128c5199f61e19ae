-- Digits that follow others, and powers of ten.
use Rattle.std.proofs.Common.{◌≡◌, ℕ, ◌+◌, ◌-◌, ◌*◌, ◌^◌, ◌<◌, ◌≤◌, Bool, true, false, ◌&&◌, if◌then◌else◌, nat_le, [], ◌∷◌, ◌++◌, length, take, get_or, Option, Some, None, IfSome, refl, sym, ap, ◌∙◌, add-one, arith}
use Rattle.std.proofs.Math.Nat.{pow-succ', pow-le-pow_right}
use Rattle.std.proofs.lemmas.Bool.Decides.{nat_tests}
use Rattle.std.proofs.lemmas.List.{take_more, length-append}
use Rattle.std.proofs.lemmas.List.Folds.{list_all-append}
use Rattle.std.proofs.lemmas.Nat.{mul-le, pow-add}
use Rattle.std.specs.Char.{digit_value, is_ascii_digit}
use Rattle.std.specs.List.{list_all}
use Rattle.std.specs.Str.Parse.{digits_value, digits_value_after}
use Rattle.pq_words.specs.Text.{Text, digits_between}

-- ---- powers of ten

pub next_power : (i : ℕ) → 10 ^ (i + 1) ≡ 10 * 10 ^ i
next_power i = rw add-one (pow-succ' 10 i)

pub power_le : (i j : ℕ) → i ≤ j → 10 ^ i ≤ 10 ^ j
power_le i j few = let ten : 0 < 10 = omega arith in pow-le-pow_right ten few

-- what is below `most` powers stays below the next one with one digit more
pub one_digit_more : (value digit most i : ℕ) → value < most * 10 ^ i → digit < 10 →
    value * 10 + digit < most * 10 ^ (i + 1)
one_digit_more value digit most i below small = omega (arith, ap (λ p. most * p) (next_power i), below, small)

-- fewer digits need less room
pub room_of_fewer : (most i j : ℕ) → i ≤ j → most * 10 ^ i ≤ most * 10 ^ j
room_of_fewer most i j few = mul-le most (10 ^ i) most (10 ^ j) (omega arith) (power_le i j few)

-- the room of two numbers of digits, one after the other
pub room_of_both : (front i j : ℕ) → front < 1 * 10 ^ i → i + j ≤ 38 → (front + 1) * 10 ^ j ≤ 10 ^ 38
room_of_both front i j below few =
    omega (
      arith,
      mul-le (front + 1) (10 ^ j) (10 ^ i) (10 ^ j) (omega (arith, below)) (omega arith),
      pow-add 10 i j,
      power_le (i + j) 38 (omega (arith, few)),
    )

-- ---- digits

pub value_of_digit : (c : ℕ) → 48 ≤ c → c ≤ 57 → digit_value c ≡ c - 48
value_of_digit c low high = grind (arith, nat_tests)

-- the digits of one text after those of another are those of the joined text
pub digits_joined : (n : ℕ) (xs ys : Text) → digits_value_after 10 n (xs ++ ys)
    ≡ digits_value_after 10 (digits_value_after 10 n xs) ys
digits_joined n [] ys = refl
digits_joined n (x ∷ xs) ys = digits_joined (n * 10 + digit_value x) xs ys

pub digits_after_more : (n : ℕ) (xs : Text) (i : ℕ) → i < length xs →
    digits_value_after 10 n (take (i + 1) xs) ≡ digits_value_after 10 n (take i xs) * 10 + digit_value
    (get_or xs i 0)
digits_after_more n xs i inside = ap (digits_value_after 10 n) (take_more xs i 0 inside)
    ∙ digits_joined n (take i xs) (get_or xs i 0 ∷ [])

-- a text that is no digits writes no number
none_by_length : (a b : Bool) (n : ℕ) → (if a && (b && false) then Some n else None) ≡ None
none_by_length true true n = refl
none_by_length true false n = refl
none_by_length false b n = refl

pub digits_none : (least most : ℕ) (text : Text) → list_all is_ascii_digit text ≡ false →
    digits_between least most text ≡ None
digits_none least most text fails =
    ap (λ d. if nat_le least (length text) && (nat_le (length text) most && d) then Some
    (digits_value 10 text) else None) fails
    ∙ none_by_length (nat_le least (length text)) (nat_le (length text) most) (digits_value 10 text)

-- the digits of two texts, read one after the other
both_read : (whole fraction : Text) (front : ℕ) (a b : Bool) → Some front
    ≡ (if a then Some (digits_value 10 whole) else None)
    → (if b then Some (digits_value_after 10 front fraction) else None)
    ≡ (if a && b then Some (digits_value 10 (whole ++ fraction)) else None)
both_read whole fraction front true true is = let same : front ≡ digits_value 10 whole = cc in
    ap Some (ap (λ n. digits_value_after 10 n fraction) same ∙ sym (digits_joined 0 whole fraction))
both_read whole fraction front true false is = refl
both_read whole fraction front false b is = let no : ⊥ = cc in absurd no

within_length : (n : ℕ) (d : Bool) (value : ℕ) → 1 ≤ n → n ≤ 32 →
    (if nat_le 1 n && (nat_le n 32 && d) then Some value else None) ≡ (if d then Some value else None)
within_length n d value some few = grind (arith, nat_tests)

pub digits_of_both : (whole fraction : Text) (front : ℕ) → 1 ≤ length whole + length fraction →
    length whole + length fraction ≤ 32
    → Some front ≡ (if list_all is_ascii_digit whole then Some (digits_value 10 whole) else None)
    → (if list_all is_ascii_digit fraction then Some (digits_value_after 10 front fraction) else None)
    ≡ digits_between 1 32 (whole ++ fraction)
digits_of_both whole fraction front some few is =
    let both = whole ++ fraction in
    let size : length both ≡ length whole + length fraction = length-append whole fraction in
    both_read whole fraction front (list_all is_ascii_digit whole) (list_all is_ascii_digit fraction) is
    ∙ ap (λ d. if d then Some (digits_value 10 both) else None)
    (sym (list_all-append is_ascii_digit whole fraction))
    ∙ sym (within_length (length both) (list_all is_ascii_digit both) (digits_value 10 both) (omega arith)
    (omega arith))

-- a number of so many digits is one of as many or more
pub below_fewer : (r : Option ℕ) (i most : ℕ) → i ≤ most → IfSome r (λ n. n < 1 * 10 ^ i) →
    IfSome r (λ n. n < 10 ^ most)
below_fewer None i most few below = tt
below_fewer (Some n) i most few below = omega (arith, power_le i most few, below)
