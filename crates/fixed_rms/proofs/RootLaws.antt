-- The root as a function is the greatest number whose square fits, and the only one.
use Rattle.std.proofs.Common.{◌≡◌, ℕ, zero, suc, ◌+◌, ◌*◌, ◌/◌, ◌^◌, ◌<◌, ◌≤◌, Bool, true, false, cond, nat_le, List, length, ℤ, pos, negsuc, All, refl, inl, inr, arith}
use Rattle.std.specs.Prelude.{unsigned_abs}
use Rattle.std.proofs.lemmas.Bool.{cases_lt}
use Rattle.std.proofs.lemmas.Int.{ints}
use Rattle.std.proofs.lemmas.List.Elements.{All-weaker}
use Rattle.std.proofs.lemmas.List.Sums.{sum_by-le}
use Rattle.pq_words.specs.declared.limits.TheConstants.{MOST_MICROVOLTS}
use Rattle.pq_words.specs.Magnitude.{IsWithin}
use Rattle.fixed_rms.specs.Root.{IsGreatestRoot, root_in, isqrt, square, sum_of_squares}

square_of_double : (r : ℕ) → (2 * r) * (2 * r) ≡ 4 * (r * r)
square_of_double r = grind arith

square_of_double_more : (r : ℕ) → (2 * r + 1 + 1) * (2 * r + 1 + 1) ≡ 4 * ((r + 1) * (r + 1))
square_of_double_more r = grind arith

-- twice the root of a quarter, and one more where its square still fits
next_digit : (q x r : ℕ) → 4 * q ≤ x → x < 4 * q + 4 → IsGreatestRoot q r → (b : Bool) →
    nat_le ((2 * r + 1) * (2 * r + 1)) x ≡ b
    → IsGreatestRoot x (cond b (2 * r + 1) (2 * r))
next_digit q x r low high root true fits = record {
  square = grind (arith, fits);
  next = omega (arith, square_of_double_more r, root.next, high);
}
next_digit q x r low high root false fits = record {
  square = omega (arith, square_of_double r, root.square, low);
  next = grind (arith, fits);
}

root_in_is : (n x : ℕ) → x < 4 ^ n → IsGreatestRoot x (root_in n x)
unfolding root_in
root_in_is zero x small = record { square = omega arith; next = omega (arith, small) }
root_in_is (suc n) x small =
    let quarter : x / 4 < 4 ^ n = grind (arith, small) in
    next_digit (x / 4) x (root_in n (x / 4)) (omega arith) (omega arith) (root_in_is n (x / 4) quarter)
    (nat_le ((2 * root_in n (x / 4) + 1) * (2 * root_in n (x / 4) + 1)) x) refl

-- the function gives the greatest root
pub isqrt_is : (x : ℕ) → x < 2 ^ 128 → IsGreatestRoot x (isqrt x)
unfolding isqrt
isqrt_is x small = root_in_is 64 x small

-- a square grows with its side
squares_rise : (r s : ℕ) → r ≤ s → r * r ≤ s * s
squares_rise r s h = grind (arith, h)

-- there is one greatest root
pub one_root : (x r s : ℕ) → IsGreatestRoot x r → IsGreatestRoot x s → r ≡ s
one_root x r s a b =
    elim (cases_lt r s) [
      | inl less ↦ absurd (omega (arith, squares_rise (r + 1) s (omega (arith, less)), a.next, b.square))
      | inr rest ↦ elim (cases_lt s r) [
        | inl less ↦ absurd (omega (arith, squares_rise (s + 1) r (omega (arith, less)), b.next, a.square))
        | inr back ↦ omega (arith, rest, back)
      ]
    ]

-- what is the greatest root is what the function gives: for the end of a search
pub isqrt_only : (x r : ℕ) → x < 2 ^ 128 → IsGreatestRoot x r → r ≡ isqrt x
isqrt_only x r small h = one_root x r (isqrt x) h (isqrt_is x small)

-- the square of a magnitude of a sample
pub square_within : (n : ℕ) → n ≤ MOST_MICROVOLTS → n * n ≤ MOST_MICROVOLTS ^ 2
square_within n h = squares_rise n MOST_MICROVOLTS h

abs_within : (n : ℕ) (z : ℤ) → IsWithin n z → unsigned_abs z ≤ n
abs_within n (pos k) small = omega (arith, ints, small)
abs_within n (negsuc k) small = omega (arith, ints, small)

-- and of all of them
pub squares_within : (samples : List ℤ) → All (IsWithin MOST_MICROVOLTS) samples →
    sum_of_squares samples ≤ length samples * MOST_MICROVOLTS ^ 2
squares_within samples quiet =
    let weight : ℤ → ℕ = λ sample. square (unsigned_abs sample) in
    sum_by-le weight (MOST_MICROVOLTS ^ 2) samples
    (All-weaker (IsWithin MOST_MICROVOLTS) (λ z. weight z ≤ MOST_MICROVOLTS ^ 2)
    (λ z h. square_within (unsigned_abs z) (abs_within MOST_MICROVOLTS z h)) samples quiet)
