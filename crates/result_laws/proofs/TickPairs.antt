-- Ticks and their places: each with the next, as they follow one another.
use Rattle.std.proofs.Common.{◌≡◌, ℕ, zero, suc, ◌≤◌, List, [], ◌∷◌, zip, drop, ℤ, pos, ◌+ℤ◌, ◌≤ℤ◌, refl, arith, inl, inr}
use Rattle.std.specs.List.{AllByRecursion}
use Rattle.std.proofs.lemmas.Int.{ints}
use Rattle.aggregate.specs.Aggregation.{tick_pairs}
use Rattle.pq_time.specs.declared.clock.Clock.{Clock}
use Rattle.pq_time.specs.Tick.{moment_of, tick_place, ticks}
use Rattle.pq_time.proofs.PlaceLaws.{place_rises}
use Rattle.pq_words.specs.Steps.{steps_from}
use Rattle.result_laws.proofs.PairLaws.{IsIn, Pairwise, all_weaker}

-- the place of a later tick is no earlier
pub tick_rises : (clock : Clock) (n : ℕ) (t u : ℤ) → t ≤ℤ u → tick_place clock n t ≤ tick_place clock n u
tick_rises clock n t u h =
    let later : moment_of t ≤ℤ moment_of u = omega (arith, ints, h) in
    place_rises clock (moment_of t) (moment_of u) n later

-- ---- numbers in equal steps

steps_above : (a low : ℤ) (s n : ℕ) → a ≤ℤ low → AllByRecursion (λ t. a ≤ℤ t) (steps_from low s n)
unfolding steps_from
steps_above a low s zero h = tt
steps_above a low s (suc n) h = (h, steps_above a (low +ℤ pos s) s n (omega (arith, ints, h)))

pub steps_apart : (low : ℤ) (s n : ℕ) → Pairwise (λ t u. (t +ℤ pos s) ≤ℤ u) (steps_from low s n)
unfolding steps_from
steps_apart low s zero = tt
steps_apart low s (suc n) =
    (steps_above (low +ℤ pos s) (low +ℤ pos s) s n (omega (arith, ints)), steps_apart (low +ℤ pos s) s n)

-- ---- each with the next

-- a tick and the next one, a period later, which is one of these ticks too
abbrev pub IsTickPair : ℕ → List ℤ → ℤ × ℤ → Type 0
IsTickPair s all p = (p.1 ≡ (p.0 +ℤ pos s)) × IsIn p.1 all

pairs_next : (low : ℤ) (s n : ℕ) → AllByRecursion (IsTickPair s (steps_from low s n))
    (zip (steps_from low s n) (drop 1 (steps_from low s n)))
unfolding steps_from
pairs_next low s zero = tt
pairs_next low s (suc zero) = tt
pairs_next low s (suc (suc n)) =
    let all = steps_from (low +ℤ pos s) s (suc n) in (
      (refl, inr (inl refl)),
      all_weaker (IsTickPair s all) (IsTickPair s (low ∷ all)) (λ p h. (h.0, inr h.1)) (zip all (drop 1 all))
          (pairs_next (low +ℤ pos s) s (suc n)),
    )

pairs_above : (a low : ℤ) (s n : ℕ) (us : List ℤ) → a ≤ℤ low →
    AllByRecursion (λ (q : ℤ × ℤ). a ≤ℤ q.0) (zip (steps_from low s n) us)
unfolding steps_from
pairs_above a low s zero us h = tt
pairs_above a low s (suc n) [] h = tt
pairs_above a low s (suc n) (u ∷ us) h = (h, pairs_above a (low +ℤ pos s) s n us (omega (arith, ints, h)))

-- a pair before another: its second tick is no later than the other's first
pairs_apart : (low : ℤ) (s n : ℕ) → Pairwise (λ (p q : ℤ × ℤ). p.1 ≤ℤ q.0)
    (zip (steps_from low s n) (drop 1 (steps_from low s n)))
unfolding steps_from
pairs_apart low s zero = tt
pairs_apart low s (suc zero) = tt
pairs_apart low s (suc (suc n)) =
    let all = steps_from (low +ℤ pos s) s (suc n) in (
      pairs_above (low +ℤ pos s) (low +ℤ pos s) s (suc n) (drop 1 all) (omega (arith, ints)),
      pairs_apart (low +ℤ pos s) s (suc n),
    )

pub ticks_next : (clock : Clock) (n period : ℕ) →
    AllByRecursion (IsTickPair period (ticks clock n period)) (tick_pairs clock n period)
unfolding ticks
ticks_next clock n period = pairs_next _ period _

pub ticks_apart : (clock : Clock) (n period : ℕ) →
    Pairwise (λ (p q : ℤ × ℤ). p.1 ≤ℤ q.0) (tick_pairs clock n period)
unfolding ticks
ticks_apart clock n period = pairs_apart _ period _

pub each_tick_apart : (clock : Clock) (n period : ℕ) →
    Pairwise (λ t u. (t +ℤ pos period) ≤ℤ u) (ticks clock n period)
unfolding ticks
each_tick_apart clock n period = steps_apart _ period _
