-- The rounding of a sample, and what keeps it within the limits.
use Rattle.std.proofs.Common.{◌≡◌, ℕ, suc, ◌+◌, ◌*◌, ◌/◌, ◌^◌, ◌≤◌, refl, ap, arith, to_z, of_z, ℤ, pos, negsuc, neg_ℤ, ◌+ℤ◌, ◌*ℤ◌, ◌≤ℤ◌, ◌<ℤ◌, ◌≢◌, FitsSigned, inl, inr}
use Rattle.std.specs.Prelude.{unsigned_abs}
use Rattle.std.proofs.lemmas.Bool.{cases_eq}
use Rattle.std.proofs.lemmas.Int.{fits_signed_from_abs, to_z-of_z, unsigned_abs-mul}
use Rattle.jiff_core.proofs.SignedLemmas.{signed_arith}
use Rattle.std.specs.Int.{w16, w64, w128}
use Rattle.std.proofs.lemmas.Nat.{mul-le}
use Rattle.comtrade_dat.specs.declared.limits.TheConstants.{MISSING_COUNT}
use Rattle.pq_base.specs.Decimal.{rounded_quotient, rounded_ratio}
use Rattle.pq_words.specs.Magnitude.{IsWithin}

abs_within : (n : ℕ) (z : ℤ) → IsWithin n z → unsigned_abs z ≤ n
abs_within n (pos k) small = omega (arith, signed_arith, small)
abs_within n (negsuc k) small = omega (arith, signed_arith, small)

abs_sum : (z a b : ℤ) → z ≡ a +ℤ b → unsigned_abs z ≤ unsigned_abs a + unsigned_abs b
abs_sum (pos k) a b is = omega (arith, signed_arith, is)
abs_sum (negsuc k) a b is = omega (arith, signed_arith, is)

-- the product of a coefficient within the limit and a count
product_size : (a x : ℤ) → IsWithin 32767 x → unsigned_abs (a *ℤ x) ≤ unsigned_abs a * 32767
product_size a x small =
    let same : unsigned_abs a ≤ unsigned_abs a = omega arith in
    let bound : unsigned_abs a * unsigned_abs x ≤ unsigned_abs a * 32767 =
    mul-le (unsigned_abs a) (unsigned_abs x) (unsigned_abs a) 32767 same (abs_within 32767 x small) in
    omega (arith, unsigned_abs-mul a x, bound)

pub product_bound : (a b x : ℤ) → unsigned_abs a * 32767 + unsigned_abs b ≤ 10 ^ 19 → IsWithin 32767 x →
    unsigned_abs (a *ℤ x) ≤ 10 ^ 19
product_bound a b x limit small = omega (arith, product_size a x small, limit)

-- and its sum with the other coefficient: every count makes a sample within the limit
pub sum_bound : (a b x : ℤ) → unsigned_abs a * 32767 + unsigned_abs b ≤ 10 ^ 19 → IsWithin 32767 x →
    unsigned_abs ((a *ℤ x) +ℤ b) ≤ 10 ^ 19
sum_bound a b x limit small = omega (
  arith,
  product_size a x small,
  abs_sum ((a *ℤ x) +ℤ b) (a *ℤ x) b refl,
  limit,
)

-- of small coefficients the product and the sum fit 64 bits
pub small_product : (a x : ℤ) → unsigned_abs a ≤ 2 ^ 46 → IsWithin 32767 x →
    unsigned_abs (a *ℤ x) ≤ 2 ^ 61
small_product a x small within = omega (arith, product_size a x within, small)

pub small_sum : (a b x : ℤ) → unsigned_abs a ≤ 2 ^ 46 → unsigned_abs b ≤ 2 ^ 62 → IsWithin 32767 x →
    unsigned_abs ((a *ℤ x) +ℤ b) ≤ 2 ^ 61 + 2 ^ 62
small_sum a b x small small_b within = omega (
  arith,
  small_product a x small within,
  abs_sum ((a *ℤ x) +ℤ b) (a *ℤ x) b refl,
  small_b,
)

pub kept_64 : (z : ℤ) → unsigned_abs z ≤ 2 ^ 61 + 2 ^ 62 → to_z w64 (of_z w64 z) ≡ z
kept_64 z small = to_z-of_z w64 z (fits_signed_from_abs w64 z (omega (arith, small)))

pub count_kept_64 : (x : ℤ) → IsWithin 32767 x → to_z w64 (of_z w64 x) ≡ x
count_kept_64 x small = kept_64 x (omega (arith, abs_within 32767 x small))

-- nothing of a number within the limit is lost in 128 bits
pub kept : (z : ℤ) → unsigned_abs z ≤ 10 ^ 19 → to_z w128 (of_z w128 z) ≡ z
kept z small = to_z-of_z w128 z (fits_signed_from_abs w128 z (omega (arith, small)))

-- nor of a count
pub count_kept : (x : ℤ) → IsWithin 32767 x → to_z w128 (of_z w128 x) ≡ x
count_kept x small = kept x (omega (arith, abs_within 32767 x small))

pub count_kept_16 : (x : ℤ) → IsWithin 32767 x → to_z w16 (of_z w16 x) ≡ x
count_kept_16 x small = to_z-of_z w16 x (fits_signed_from_abs w16 x (omega (arith, abs_within 32767 x small)))

-- a sample is rounded as its magnitude is
pub rounded_above : (z : ℤ) → pos 0 ≤ℤ z → pos (rounded_quotient (unsigned_abs z) 1000000)
    ≡ rounded_ratio z 1000000
rounded_above (pos n) above = refl
rounded_above (negsuc n) above = absurd (omega (arith, signed_arith, above))

pub rounded_below : (z : ℤ) → z <ℤ pos 0 → neg_ℤ (pos (rounded_quotient (unsigned_abs z) 1000000))
    ≡ rounded_ratio z 1000000
rounded_below (pos n) below = absurd (omega (arith, signed_arith, below))
rounded_below (negsuc n) below = let e : (2 * suc n + 1000000) / 2000000 ≡ (2 * (n + 1) + 1000000) / 2000000 =
    omega arith in ap (λ q. neg_ℤ (pos q)) e

-- a count that is there is not the least of 16 bits
pub there_within : (x : ℤ) → FitsSigned w16 x → x ≢ MISSING_COUNT → IsWithin 32767 x
there_within (pos n) fits there = omega (arith, signed_arith, fits)
there_within (negsuc n) fits there =
    elim (cases_eq n 32767) [
      | inl same ↦ absurd (there (ap negsuc same))
      | inr other ↦ let small : n ≤ 32766 = omega (arith, fits, other) in omega (arith, signed_arith, small)
    ]
