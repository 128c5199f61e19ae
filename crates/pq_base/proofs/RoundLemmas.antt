-- Digits times a power of ten, and divided by one.
use Rattle.std.proofs.Common.{◌≡◌, ℕ, ◌+◌, ◌-◌, ◌*◌, ◌/◌, ◌%◌, ◌^◌, ◌<◌, ◌≤◌, sym, arith}
use Rattle.std.proofs.Math.Nat.{div-add-mod', div-eq_of_lt, div-eq_of_lt-le}
use Rattle.std.proofs.lemmas.Nat.{mod_below, mul-le}
use Rattle.pq_base.proofs.DigitsLemmas.{power_le}
use Rattle.pq_base.specs.Decimal.{rounded_quotient}

-- the rest of a division is half or more
pub rounded_up : (n d : ℕ) → 0 < d → d - n % d ≤ n % d → n / d + 1 ≡ rounded_quotient n d
rounded_up n d some half =
    let parts : n / d * d + n % d ≡ n = div-add-mod' n d in
    let below : n % d < d = mod_below n d some in
    sym (div-eq_of_lt-le {k = n / d + 1} (2 * d) {m = 2 * n + d} (omega arith) (omega arith))

-- what is less than half is rounded to 0
pub rounded_to_none : (n d : ℕ) → 2 * n < d → 0 ≡ rounded_quotient n d
rounded_to_none n d small = sym (div-eq_of_lt {n = 2 * n + d} {m = 2 * d} (omega arith))

-- a power of ten above 38 is above the double of any 128 bits
pub small_digits : (n power : ℕ) → n < 2 ^ 128 → 38 < power → 2 * n < 10 ^ power
small_digits n power fits more = omega (arith, power_le 39 power (omega arith))

pub large_product : (digits power : ℕ) → 0 < digits → 38 < power → digits * 10 ^ power < 2 ^ 128 → ⊥
large_product digits power some more fits =
    omega (
      arith,
      mul-le 1 (10 ^ power) digits (10 ^ power) (omega arith) (omega arith),
      power_le 39 power (omega arith),
    )

pub fits_128 : (power : ℕ) → power ≤ 38 → 10 ^ power < 2 ^ 128
fits_128 power few = omega (arith, power_le power 38 few)
