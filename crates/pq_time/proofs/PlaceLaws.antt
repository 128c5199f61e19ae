-- Sample times do not fall, so a place is told by its neighbour, and by a quotient.
use Rattle.std.proofs.Common.{◌≡◌, ◌↔◌, ℕ, ◌+◌, ◌*◌, ◌/◌, ◌^◌, ◌<◌, ◌≤◌, min, ℤ, pos, ◌+ℤ◌, ◌-ℤ◌, ◌≤ℤ◌, ◌<ℤ◌, unsigned_abs, Bool, IsTrue, true, false, refl, Some, None, unwrap_or, sym, ◌∙◌, ap, arith, inl, inr}
use Rattle.std.specs.Int.{div_ceil}
use Rattle.std.specs.Prelude.{int_le}
use Rattle.std.proofs.Math.Nat.{le-div_iff_mul-le, div-le_of_le-mul}
use Rattle.std.proofs.lemmas.Bool.{cases_lt}
use Rattle.std.proofs.lemmas.Int.{ints}
use Rattle.pq_time.specs.declared.clock.Clock.{Clock}
use Rattle.pq_time.specs.Time.{TellsPlaces, time_of, is_taken_by, place_of}
use Rattle.pq_words.specs.First.{IsFirst}
use Rattle.pq_words.proofs.FirstLaws.{first_by_neighbour, first_between_only, first_earlier}

div_rises : (a b r : ℕ) → a ≤ b → a / r ≤ b / r
div_rises a b r h = grind (arith, h)

later_stays : (a b : ℤ) (m n : ℕ) → m ≤ n → int_le a (b +ℤ pos m) ≡ true → int_le a (b +ℤ pos n) ≡ true
later_stays a b m n h is = grind (arith, h, is)

-- a place at or after a moment has only such places after it
pub taken_stays : (clock : Clock) (moment : ℤ) (i j : ℕ) → i ≤ j → IsTrue (is_taken_by clock moment i) →
    IsTrue (is_taken_by clock moment j)
unfolding time_of
taken_stays clock moment i j h is =
    let product : i * 10 ^ 15 ≤ j * 10 ^ 15 = omega (arith, h) in
    later_stays moment clock.t0 (i * 10 ^ 15 / clock.rate) (j * 10 ^ 15 / clock.rate)
    (div_rises (i * 10 ^ 15) (j * 10 ^ 15) clock.rate product) is

-- a place that is taken at the moment or after it, while the one before it is not, is the moment's place
pub place_by_neighbour : (clock : Clock) (moment : ℤ) (n k : ℕ) → k + 1 < n → is_taken_by clock moment k
    ≡ false → IsTrue (is_taken_by clock moment (k + 1))
    → place_of clock moment n ≡ k + 1
unfolding place_of
place_by_neighbour clock moment n k inside before at =
    ap (λ o. unwrap_or o n) (first_by_neighbour (is_taken_by clock moment) 0 n k (taken_stays clock moment)
    (omega arith) inside before at)

-- so told by its neighbour
pub tells_places : TellsPlaces
tells_places clock moment n k inside before at = place_by_neighbour clock moment n k inside
    (is_false (is_taken_by clock moment k) before) at
  where
    is_false : (b : Bool) → (b ≡ true → ⊥) → b ≡ false
    is_false true h = absurd (h refl)
    is_false false h = refl

-- where the places taken at the moment or after it are those from a place on, that place is the moment's, or
-- the end
pub place_from : (clock : Clock) (moment : ℤ) (n least : ℕ) →
    ((k : ℕ) → IsTrue (is_taken_by clock moment k) ↔ (least ≤ k)) → place_of clock moment n ≡ min least n
unfolding place_of
place_from clock moment n least h =
    elim (cases_lt least n) [
      | inl inside ↦
          let first : IsFirst (is_taken_by clock moment) 0 n (Some least) = record {
            after = omega arith;
            below = inside;
            passes = (h least).1 (omega arith);
            none_before = λ k from below given. absurd (omega (arith, (h k).0 given, below));
          } in
          let bounded : least ≡ min least n = omega (arith, inside) in
          ap (λ o. unwrap_or o n) (sym (first_between_only (is_taken_by clock moment) 0 n (Some least) first))
          ∙ bounded
      | inr past ↦
          let none : IsFirst (is_taken_by clock moment) 0 n None =
          λ k from below given. absurd (omega (arith, (h k).0 given, below, past)) in
          let bounded : n ≡ min least n = omega (arith, past) in
          ap (λ o. unwrap_or o n) (sym (first_between_only (is_taken_by clock moment) 0 n None none))
          ∙ bounded
    ]

-- every place is taken at the first moment or after it
pub place_at_start : (clock : Clock) (moment : ℤ) (n : ℕ) → moment ≤ℤ clock.t0 → 0 ≡ place_of clock moment n
unfolding time_of
place_at_start clock moment n early =
    let bounded : 0 ≡ min 0 n = omega arith in
    bounded ∙ sym (place_from clock moment n 0 (λ k.
    ((λ _. omega arith), λ _. taken (k * 10 ^ 15 / clock.rate))))
  where
    taken : (m : ℕ) → int_le moment (clock.t0 +ℤ pos m) ≡ true
    taken m = grind (arith, ints)

after_by : (moment t0 : ℤ) (passed m : ℕ) → t0 <ℤ moment → passed ≡ unsigned_abs (moment -ℤ t0) →
    (IsTrue (int_le moment (t0 +ℤ pos m)) ↔ (passed ≤ m))
after_by moment t0 passed m later is = ((λ taken. grind (arith, ints)), λ enough. grind (arith, ints))

ceil_iff : (x k : ℕ) → (x ≤ k * 10 ^ 15) ↔ (div_ceil x (10 ^ 15) ≤ k)
ceil_iff x k = ((λ h. omega (arith, h)), λ h. omega (arith, h))

-- so many nanoseconds after the first moment, the place is their number times the rate, divided and rounded
-- up
pub place_passed : (clock : Clock) (moment : ℤ) (n passed : ℕ) → 0 < clock.rate → clock.t0 <ℤ moment → passed
    ≡ unsigned_abs (moment -ℤ clock.t0)
    → min (div_ceil (passed * clock.rate) (10 ^ 15)) n ≡ place_of clock moment n
unfolding time_of
place_passed clock moment n passed some later is =
    sym (place_from clock moment n (div_ceil (passed * clock.rate) (10 ^ 15))
    (λ k.
    let by_time = after_by moment clock.t0 passed (k * 10 ^ 15 / clock.rate) later is in
    let by_product : (passed ≤ k * 10 ^ 15 / clock.rate) ↔ (passed * clock.rate ≤ k * 10 ^ 15) =
    le-div_iff_mul-le some in
    let by_place = ceil_iff (passed * clock.rate) k in (
      (λ taken. by_place.0 (by_product.0 (by_time.0 taken))),
      λ from. by_time.1 (by_product.1 (by_place.1 from)),
    )))

-- the nanoseconds from the first sample to the one at a place
pub passed_small : (i rate : ℕ) → i ≤ 50_000_000 → 800_000_000 ≤ rate →
    i * 10 ^ 15 / rate ≤ 62_500_000_000_000
passed_small i rate few fast =
    let product : 800_000_000 * 62_500_000_000_000 ≤ rate * 62_500_000_000_000 = omega (arith, fast) in
    div-le_of_le-mul rate (omega (arith, few, product))

-- ---- the place of a later moment is no earlier

after_both : (a b c : ℤ) → a ≤ℤ b → int_le b c ≡ true → int_le a c ≡ true
after_both a b c h is = grind (arith, ints, h, is)

pub place_rises : (clock : Clock) (t u : ℤ) (n : ℕ) → t ≤ℤ u → place_of clock t n ≤ place_of clock u n
unfolding place_of
place_rises clock t u n h = first_earlier (is_taken_by clock t) (is_taken_by clock u) 0 n
    (λ k. after_both t u _ h)
