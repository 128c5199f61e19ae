-- A text cut at its first separator, and digits read one by one.
use Rattle.std.proofs.Common.{◌≡◌, ◌≢◌, ℕ, suc, ◌+◌, ◌-◌, ◌<◌, ◌≤◌, Bool, true, false, cond, List, [], ◌∷◌, length, take, drop, Some, None, position, nat_lt, lit<, ◌==◌, ◌&&◌, ◌*◌, ◌^◌, get_or, add-one, refl, sym, ◌∙◌, ap, arith}
use Rattle.std.specs.Char.{is_ascii_digit, digit_value}
use Rattle.std.specs.List.{slice_split, position_or_len, list_all}
use Rattle.std.specs.Str.Parse.{digits_value}
use Rattle.std.proofs.Math.Nat.{pow-suc, pow-le-pow_right}
use Rattle.std.proofs.lemmas.Int.Digits.{digits_value_more}
use Rattle.std.proofs.lemmas.List.Folds.{list_all_more}
use Rattle.std.proofs.lemmas.Bool.{ltb-true, ltb-false}
use Rattle.std.proofs.lemmas.Bool.Decides.{nat_tests}
use Rattle.std.proofs.lemmas.List.{take_rest}
use Rattle.std.proofs.lemmas.List.Splits.{slice_split_first, slice_split_none, length-slice_split}
use Rattle.std.proofs.lemmas.List.Sums.{fails_before_first}
use Rattle.pq_words.specs.Text.{parted_at}

found : (b : Bool) (n len i : ℕ) → nat_lt n len ≡ b → cond b (Some n) None ≡ Some i → (n < len) × (n ≡ i)
found true n len i is e = (
  let less : n < len = omega (arith, ltb-true) in less,
  let same : n ≡ i = cc in
      same,
)
found false n len i is e = absurd (let bad : ⊥ = cc in bad)

not_found : (b : Bool) (n len : ℕ) → nat_lt n len ≡ b → cond b (Some n) None ≡ None → len ≤ n
not_found true n len is e = absurd (let bad : ⊥ = cc in bad)
not_found false n len is e = omega (arith, ltb-false)

-- where the separator is found, the first part is what stands before it, and the others are the parts of what
-- stands after it
pub parts_cut : (at : ℕ) (text : List ℕ) (i : ℕ) → position (λ b. b == at) text ≡ Some i
    → parted_at at text ≡ take i text ∷ parted_at at (take (length text - (i + 1)) (drop (i + 1) text))
parts_cut at text i e =
    let p : ℕ → Bool = λ b. b == at in
    let f = found (nat_lt (position_or_len p text) (length text)) (position_or_len p text) (length text) i
    refl e in
    slice_split_first p text 0 f.0
    ∙ ap (λ n. take n text ∷ slice_split p (drop (n + 1) text)) f.1
    ∙ ap (λ rest. take i text ∷ slice_split p rest) (sym (take_rest text (i + 1)))

-- and where it is not, the text is the one part
pub one_part : (at : ℕ) (text : List ℕ) → position (λ b. b == at) text ≡ None → parted_at at text ≡ text ∷ []
one_part at text e =
    let p : ℕ → Bool = λ b. b == at in
    let past = not_found (nat_lt (position_or_len p text) (length text)) (position_or_len p text)
    (length text) refl e in
    slice_split_none p text (λ k d inside. fails_before_first p text k d (omega (arith, inside, past)))

-- a text has a part at least
pub some_part : (at : ℕ) (text : List ℕ) → 1 ≤ length (parted_at at text)
some_part at text = omega (arith, length-slice_split (λ b. b == at) text)

-- where two separators leave a third, there are more than three parts
pub more_than_three : (at : ℕ) (first second third fourth : List ℕ) (all after rest : List (List ℕ)) → all
    ≡ first ∷ after → after ≡ second ∷ rest → rest ≡ third ∷ parted_at at fourth → length all ≢ 3
more_than_three at first second third fourth all after rest one two three is =
    let a : length all ≡ suc (length after) = ap length one in
    let b : length after ≡ suc (length rest) = ap length two in
    let c : length rest ≡ suc (length (parted_at at fourth)) = ap length three in
    omega (arith, is, some_part at fourth)

-- three at least
pub three_at_least : (at : ℕ) (first second third : List ℕ) (all after : List (List ℕ)) → all ≡ first ∷ after
    → after ≡ second ∷ parted_at at third → 3 ≤ length all
three_at_least at first second third all after one two =
    let a : length all ≡ suc (length after) = ap length one in
    let b : length after ≡ suc (length (parted_at at third)) = ap length two in
    omega (arith, some_part at third)

-- and fewer where none is left
pub two_parts : (first rest : List ℕ) (all after : List (List ℕ)) → all ≡ first ∷ after → after ≡ rest ∷ [] →
    length all ≢ 3
two_parts first rest all after one two is =
    let a : length all ≡ suc (length after) = ap length one in
    let b : length after ≡ 1 = ap length two in
    omega (arith, is)

-- ---- digits

-- what was read of the first digits of a text
pub record IsRead (text : List ℕ) (i value : ℕ) : Type 0 where
  pub value_is : value ≡ digits_value 10 (take i text)
  pub digits : list_all is_ascii_digit (take i text) ≡ true
  pub small : value < 10 ^ i

-- a digit
pub digit_of : (c digit : ℕ) → is_ascii_digit c ≡ true → digit ≡ c - 48 → (digit ≤ 9) ×
    (digit_value c ≡ digit)
digit_of c digit is e = grind (arith, nat_tests)

-- one digit more
pub read_more : (text : List ℕ) (i value digit : ℕ) → i < length text → is_ascii_digit (get_or text i 0)
    ≡ true → digit ≡ get_or text i 0 - 48 → IsRead text i value → IsRead text (i + 1) (value * 10 + digit)
read_more text i value digit inside is e h =
    let d = digit_of (get_or text i 0) digit is e in
    let more : 10 ^ (i + 1) ≡ 10 ^ suc i = ap (λ k. 10 ^ k) (add-one i) in
    record {
      value_is = omega (arith, h.value_is, d.1, digits_value_more 10 text i inside);
      digits = list_all_more is_ascii_digit text i 0 inside
          ∙ ap (λ b. b && is_ascii_digit (get_or text i 0)) h.digits ∙ is;
      small = omega (arith, h.small, d.0, pow-suc 10 i, more);
    }

-- a value of so many digits fits
pub read_fits : (text : List ℕ) (i most value : ℕ) → i ≤ most → IsRead text i value → value < 10 ^ most
read_fits text i most value within h =
    let more : 10 ^ i ≤ 10 ^ most = pow-le-pow_right (lit< tt) within in
    omega (arith, h.small)
