-- The list of ticks has each tick and nothing else.
use Rattle.std.proofs.Common.{◌≡◌, ◌↔◌, ℕ, zero, suc, ◌+◌, ◌-◌, ◌*◌, ◌^◌, ◌<◌, ◌≤◌, ℤ, pos, negsuc, neg_ℤ, ◌+ℤ◌, ◌-ℤ◌, ◌*ℤ◌, ◌≤ℤ◌, ◌<ℤ◌, ◌∷◌, length, get_or, unsigned_abs, to_z, of_z, w64, FitsSigned, lit<, refl, sym, ◌∙◌, ap, subst, arith}
use Rattle.std.specs.Int.{int_div_euclid, int_max, int_rem_euclid}
use Rattle.std.proofs.Math.Nat.{mul-le-mul_right}
use Rattle.std.proofs.lemmas.Int.{by_lt_z, ints, to_z-of_z, to_z_pos, fits_signed_mul}
use Rattle.jiff_core.proofs.SignedLemmas.{signed_arith, int_div_euclid-parts, int_rem_euclid-parts}
use borrow.Author.Differences.{up, down}
use Rattle.pq_time.specs.declared.clock.Clock.{Clock}
use Rattle.pq_time.specs.Time.{time_of}
use Rattle.pq_time.specs.Tick.{IsTick, HasTicks, at_least_zero, first_period, last_period, ticks}
use Rattle.pq_time.proofs.PlaceLaws.{passed_small}
use Rattle.pq_words.specs.Magnitude.{IsWithin}
use Rattle.pq_words.specs.Steps.{steps_from}

-- ---- a list in equal steps

steps_length : (low : ℤ) (step n : ℕ) → length (steps_from low step n) ≡ n
unfolding steps_from
steps_length low step zero = refl
steps_length low step (suc n) = ap suc (steps_length (low +ℤ pos step) step n)

-- the number at a place of it
steps_at : (low : ℤ) (step n k : ℕ) (d : ℤ) → k < n → get_or (steps_from low step n) k d
    ≡ (low +ℤ pos (k * step))
unfolding steps_from
steps_at low step zero k d inside = absurd (omega (arith, inside))
steps_at low step (suc n) zero d inside = omega (arith, signed_arith)
steps_at low step (suc n) (suc k) d inside = steps_at (low +ℤ pos step) step n k d (omega (arith, inside))
    ∙ omega (arith, signed_arith)

-- the first is given, and the others are left
pub steps_next : (next first after : ℤ) (step n : ℕ) → (n ≡ 0 → ⊥) → first ≡ next → after ≡ (next +ℤ pos step)
    → steps_from next step n ≡ first ∷ steps_from after step (n - 1)
unfolding steps_from
steps_next next first after step zero some a b = absurd (some refl)
steps_next next first after step (suc n) some a b =
    let less : n ≡ suc n - 1 = omega arith in
    ap (λ x. x ∷ steps_from (next +ℤ pos step) step n) (sym a)
    ∙ ap (λ x. first ∷ steps_from x step n) (sym b)
    ∙ ap (λ m. first ∷ steps_from after step m) less

-- ---- multiples of a length

-- more lengths are longer
multiples_rise : (a b : ℤ) (p : ℕ) → a ≤ℤ b → (a *ℤ pos p) ≤ℤ (b *ℤ pos p)
multiples_rise a b p h =
    let le : up a + down b ≤ up b + down a = omega (arith, signed_arith, h) in
    let product : (up a + down b) * p ≤ (up b + down a) * p = mul-le-mul_right p le in
    omega (arith, signed_arith, product)

-- some more
some_more : (a : ℤ) (k p : ℕ) → ((a +ℤ pos k) *ℤ pos p) ≡ ((a *ℤ pos p) +ℤ pos (k * p))
some_more a k p =
    let parts : up (a +ℤ pos k) + down a ≡ down (a +ℤ pos k) + up a + k = omega (arith, signed_arith) in
    let product : (up (a +ℤ pos k) + down a) * p ≡ (down (a +ℤ pos k) + up a + k) * p =
    ap (λ x. x * p) parts in
    omega (arith, signed_arith, product)

-- as many before zero
negative : (a : ℤ) (p : ℕ) → (neg_ℤ a *ℤ pos p) ≡ neg_ℤ (a *ℤ pos p)
negative a p =
    let parts : up (neg_ℤ a) + up a ≡ down (neg_ℤ a) + down a = omega (arith, signed_arith) in
    let product : (up (neg_ℤ a) + up a) * p ≡ (down (neg_ℤ a) + down a) * p = ap (λ x. x * p) parts in
    omega (arith, signed_arith, product)

-- so what is shorter is fewer
fewer : (a b : ℤ) (p : ℕ) → 0 < p → (a *ℤ pos p) <ℤ ((b *ℤ pos p) +ℤ pos p) → a ≤ℤ b
fewer a b p some h =
    by_lt_z b a
    (λ less.
    let rise = multiples_rise (b +ℤ pos 1) a p (omega (arith, signed_arith, less)) in
    absurd (omega (arith, signed_arith, rise, h, some_more b 1 p)))
    (λ le. le)

-- ---- whole numbers of periods

-- the first whole number of lengths at or after z
rounded_up : (z : ℤ) (p : ℕ) → 0 < p → (z ≤ℤ (neg_ℤ (int_div_euclid (neg_ℤ z) (pos p)) *ℤ pos p)) ×
    ((neg_ℤ (int_div_euclid (neg_ℤ z) (pos p)) *ℤ pos p) <ℤ (z +ℤ pos p))
rounded_up z p some =
    let q = int_div_euclid-parts (neg_ℤ z) p some in
    let back = negative (int_div_euclid (neg_ℤ z) (pos p)) p in
    (omega (arith, signed_arith, q, back), omega (arith, signed_arith, q, back))

-- the last one at or before z
rounded_down : (z : ℤ) (p : ℕ) → 0 < p → ((int_div_euclid z (pos p) *ℤ pos p) ≤ℤ z) ×
    (z <ℤ ((int_div_euclid z (pos p) *ℤ pos p) +ℤ pos p))
rounded_down z p some =
    let q = int_div_euclid-parts z p some in
    (omega (arith, signed_arith, q), omega (arith, signed_arith, q))

-- a whole number of periods has no remainder
no_remainder : (j : ℤ) (p : ℕ) → 0 < p → int_rem_euclid (j *ℤ pos p) (pos p) ≡ pos 0
no_remainder j p some =
    let z : ℤ = j *ℤ pos p in
    let q : ℤ = int_div_euclid z (pos p) in
    let down_to = rounded_down z p some in
    let most : q ≤ℤ j = fewer q j p some (omega (arith, signed_arith, down_to.0)) in
    let least : j ≤ℤ q = fewer j q p some down_to.1 in
    let same : q ≡ j = omega (arith, signed_arith, most, least) in
    let product : q *ℤ pos p ≡ j *ℤ pos p = ap (λ x. x *ℤ pos p) same in
    let r = int_rem_euclid-parts (j *ℤ pos p) p some in
    omega (arith, signed_arith, r, product)

-- and what has none is a whole number of periods
whole_periods : (second : ℤ) (p : ℕ) → 0 < p → int_rem_euclid second (pos p) ≡ pos 0 → second
    ≡ (int_div_euclid second (pos p) *ℤ pos p)
whole_periods second p some none =
    let r = int_rem_euclid-parts second p some in
    omega (arith, signed_arith, r, none)

-- so many periods are a tick exactly from the first to the last
module _ (clock : Clock) (n p : ℕ) (some : 0 < p) where
  long : 0 < p * 10 ^ 9
  long = omega (arith, some)

  periods_tick : (j : ℤ) → first_period clock.t0 p ≤ℤ j → j ≤ℤ last_period (time_of clock n) p →
      IsTick clock n p (j *ℤ pos p)
  periods_tick j from until =
      let low = rounded_up clock.t0 (p * 10 ^ 9) long in
      let high = rounded_down (time_of clock n) (p * 10 ^ 9) long in
      let rise = multiples_rise (first_period clock.t0 p) j (p * 10 ^ 9) from in
      let stay = multiples_rise j (last_period (time_of clock n) p) (p * 10 ^ 9) until in
      record {
        divisible = no_remainder j p some;
        not_before = omega (arith, signed_arith, low.0, rise);
        not_after = omega (arith, signed_arith, high.0, stay);
      }

  tick_periods : (j : ℤ) → IsTick clock n p (j *ℤ pos p) → (first_period clock.t0 p ≤ℤ j) ×
      (j ≤ℤ last_period (time_of clock n) p)
  tick_periods j tick =
      let low = rounded_up clock.t0 (p * 10 ^ 9) long in
      let high = rounded_down (time_of clock n) (p * 10 ^ 9) long in (
        fewer (first_period clock.t0 p) j (p * 10 ^ 9) long
            (omega (arith, signed_arith, low.1, tick.not_before)),
        fewer j (last_period (time_of clock n) p) (p * 10 ^ 9) long
            (omega (arith, signed_arith, high.1, tick.not_after)),
      )

at_least_zero_is : (z : ℤ) (k : ℕ) → (k < at_least_zero z) ↔ (pos k <ℤ z)
at_least_zero_is (pos m) k = ((λ h. omega (arith, signed_arith, h)), λ h. omega (arith, signed_arith, h))
at_least_zero_is (negsuc m) k = (
  (λ h. absurd (omega (arith, h))),
  λ h. absurd (omega (arith, signed_arith, h)),
)

-- what is at or after another number lies some steps after it
steps_after : (a b : ℤ) → a ≤ℤ b → (k : ℕ) × (b ≡ (a +ℤ pos k))
steps_after a b h = (up b + down a - (up a + down b), omega (arith, signed_arith, h))

-- the list has the ticks of a period and nothing else
pub ticks_exact : (clock : Clock) (n p : ℕ) → 0 < p → HasTicks clock n p (ticks clock n p)
unfolding ticks
ticks_exact clock n p some second =
    let first = first_period clock.t0 p in
    let last = last_period (time_of clock n) p in
    let count = at_least_zero ((last -ℤ first) +ℤ pos 1) in
    let low = first *ℤ pos p in (
      λ there.
          let k = there.0 in
          let inside : k < count = omega (arith, there.1, steps_length low p count) in
          let j : ℤ = first +ℤ pos k in
          let within = (at_least_zero_is ((last -ℤ first) +ℤ pos 1) k).0 inside in
          let is : second ≡ (j *ℤ pos p) = sym there.2 ∙ steps_at low p count k second inside
          ∙ sym (some_more first k p) in
          let tick = periods_tick clock n p some j (omega (arith, signed_arith))
          (omega (arith, signed_arith, within)) in
          subst (λ s. IsTick clock n p s) (sym is) tick,
      λ tick.
          let j : ℤ = int_div_euclid second (pos p) in
          let is : second ≡ (j *ℤ pos p) = whole_periods second p some tick.divisible in
          let within = tick_periods clock n p some j (subst (λ s. IsTick clock n p s) is tick) in
          let after = steps_after first j within.0 in
          let k = after.0 in
          let inside : k < count = (at_least_zero_is ((last -ℤ first) +ℤ pos 1) k).1
          (omega (arith, signed_arith, within, after.1)) in
          let there : get_or (steps_from low p count) k second ≡ second = steps_at low p count k second inside
          ∙ sym (some_more first k p) ∙ ap (λ x. x *ℤ pos p) (sym after.1) ∙ sym is in
          (k, omega (arith, inside, steps_length low p count), there),
    )

-- there are few of them
pub few_ticks : (clock : Clock) (n p : ℕ) → 10 ≤ p → n ≤ 50_000_000 → 800_000_000 ≤ clock.rate →
    length (ticks clock n p) ≤ 6251
unfolding ticks time_of
few_ticks clock n p long few fast =
    let first = first_period clock.t0 p in
    let last = last_period (time_of clock n) p in
    let low = rounded_up clock.t0 (p * 10 ^ 9) (omega (arith, long)) in
    let high = rounded_down (time_of clock n) (p * 10 ^ 9) (omega (arith, long)) in
    let passed = passed_small n clock.rate few fast in
    let more = some_more first 6250 (p * 10 ^ 9) in
    let near : last ≤ℤ (first +ℤ pos 6250) = fewer last (first +ℤ pos 6250) (p * 10 ^ 9) (omega (arith, long))
    (omega (arith, signed_arith, low.0, high.0, passed, more, long)) in
    let count = at_least_zero ((last -ℤ first) +ℤ pos 1) in
    let small : count ≤ 6251 = at ((last -ℤ first) +ℤ pos 1) (omega (arith, signed_arith, near)) in
    omega (arith, steps_length (first *ℤ pos p) p count, small)
  where
    at : (z : ℤ) → z ≤ℤ pos 6251 → at_least_zero z ≤ 6251
    at (pos k) h = omega (arith, signed_arith, h)
    at (negsuc k) h = omega arith

-- ---- bounds

-- periods of 10 s and more up to a moment of an i64 are fewer than 10^9
pub first_within : (moment : ℤ) (p : ℕ) → 10 ≤ p → IsWithin (9 * 10 ^ 18) moment →
    IsWithin (10 ^ 9) (first_period moment p)
first_within moment p long within =
    let low = rounded_up moment (p * 10 ^ 9) (omega (arith, long)) in
    let product : 10 * 10 ^ 18 ≤ p * 10 ^ 18 = omega (arith, long) in (
      fewer (neg_ℤ (pos (10 ^ 9))) (first_period moment p) (p * 10 ^ 9) (omega (arith, long))
          (omega (arith, signed_arith, low.0, within, product)),
      fewer (first_period moment p) (pos (10 ^ 9)) (p * 10 ^ 9) (omega (arith, long))
          (omega (arith, signed_arith, low.1, within, product)),
    )

pub last_within : (moment : ℤ) (p : ℕ) → 10 ≤ p → IsWithin (9 * 10 ^ 18) moment →
    IsWithin (10 ^ 9) (last_period moment p)
last_within moment p long within =
    let high = rounded_down moment (p * 10 ^ 9) (omega (arith, long)) in
    let product : 10 * 10 ^ 18 ≤ p * 10 ^ 18 = omega (arith, long) in (
      fewer (neg_ℤ (pos (10 ^ 9))) (last_period moment p) (p * 10 ^ 9) (omega (arith, long))
          (omega (arith, signed_arith, high.1, within, product)),
      fewer (last_period moment p) (pos (10 ^ 9)) (p * 10 ^ 9) (omega (arith, long))
          (omega (arith, signed_arith, high.0, within, product)),
    )

abs_within : (z : ℤ) (most : ℕ) → IsWithin most z → unsigned_abs z ≤ most
abs_within (pos n) most h = omega (arith, signed_arith, h)
abs_within (negsuc n) most h = omega (arith, signed_arith, h)

-- the greater of a number and 0
pub max_zero : (z : ℤ) → unsigned_abs (int_max z (pos 0)) ≡ at_least_zero z
max_zero (pos n) = grind (arith, ints)
max_zero (negsuc n) = grind (arith, ints)

-- so many periods in seconds, as the code computes them
pub seconds_fit : (first : ℤ) (p : ℕ) → p ≤ 7200 → IsWithin (10 ^ 9) first →
    FitsSigned w64 (to_z w64 (of_z w64 first) *ℤ to_z w64 p)
seconds_fit first p short within =
    let fits : FitsSigned w64 first = omega (arith, ints) in
    let first_is : to_z w64 (of_z w64 first) ≡ first = to_z-of_z w64 first fits in
    let period_is : to_z w64 p ≡ pos p = to_z_pos w64 p (omega (arith, short)) in
    let small : unsigned_abs first ≤ 10 ^ 9 = abs_within first (10 ^ 9) within in
    rw (first_is, period_is) (fits_signed_mul w64 first (pos p) (10 ^ 9) 7200 small short (lit< tt))

pub seconds_are : (first : ℤ) (p : ℕ) → p ≤ 7200 → IsWithin (10 ^ 9) first →
    to_z w64 (of_z w64 (to_z w64 (of_z w64 first) *ℤ to_z w64 p)) ≡ (first *ℤ pos p)
seconds_are first p short within =
    let fits : FitsSigned w64 first = omega (arith, ints) in
    to_z-of_z w64 (to_z w64 (of_z w64 first) *ℤ to_z w64 p) (seconds_fit first p short within)
    ∙ ap (λ z. z *ℤ to_z w64 p) (to_z-of_z w64 first fits)
    ∙ ap (λ z. first *ℤ z) (to_z_pos w64 p (omega (arith, short)))

-- the last second of so many periods
pub ends_within : (first last : ℤ) (p : ℕ) → p ≤ 7200 → IsWithin (10 ^ 9) first → IsWithin (10 ^ 9) last
    → (neg_ℤ (pos (10 ^ 14)) ≤ℤ (first *ℤ pos p)) × (((first *ℤ pos p) +ℤ pos
    (at_least_zero ((last -ℤ first) +ℤ pos 1) * p)) ≤ℤ pos (10 ^ 14))
ends_within first last p short a b =
    let low = multiples_rise (neg_ℤ (pos (10 ^ 9))) first p a.0 in
    (omega (arith, signed_arith, low), at ((last -ℤ first) +ℤ pos 1) refl)
  where
    at : (z : ℤ) → ((last -ℤ first) +ℤ pos 1) ≡ z → ((first *ℤ pos p) +ℤ pos (at_least_zero z * p)) ≤ℤ pos
        (10 ^ 14)
    at (pos k) e =
        let more = some_more first k p in
        let most : (first +ℤ pos k) ≤ℤ pos (10 ^ 9 + 1) = omega (arith, signed_arith, e, b.1) in
        omega (arith, signed_arith, more, multiples_rise (first +ℤ pos k) (pos (10 ^ 9 + 1)) p most)
    at (negsuc k) e = omega (arith, signed_arith, multiples_rise first (pos (10 ^ 9)) p a.1)
