-- The places of the ticks do not fall.
use Rattle.std.proofs.Common.{◌≡◌, ℕ, zero, suc, ◌<◌, ◌≤◌, List, [], ◌∷◌, ◌++◌, length, map, get_or, ℤ, sym, ◌∙◌, ap, arith, append_assoc}
use Rattle.std.specs.List.Sorted.{IsNonDecreasing}
use Rattle.pq_sequence.proofs.FrontLemmas.{RisesFrom, places_rise}
use Rattle.pq_sequence.specs.MeasuredRecording.{tick_places}
use Rattle.pq_time.specs.declared.clock.Clock.{Clock}

none_below : (low : ℕ) (xs : List ℕ) → RisesFrom low xs → (k d : ℕ) → k < length xs → low ≤ get_or xs k d
none_below low [] rises k d inside = absurd (omega (arith, inside))
none_below low (x ∷ xs) rises zero d inside = rises.0
none_below low (x ∷ xs) rises (suc k) d inside =
    let a = none_below x xs rises.1 k d (omega (arith, inside)) in
    let b = rises.0 in
    omega (arith, a, b)

never_fall : (low : ℕ) (xs : List ℕ) → RisesFrom low xs → (i j d : ℕ) → i ≤ j → j < length xs →
    get_or xs i d ≤ get_or xs j d
never_fall low [] rises i j d order inside = absurd (omega (arith, inside))
never_fall low (x ∷ xs) rises zero zero d order inside = omega arith
never_fall low (x ∷ xs) rises zero (suc j) d order inside =
    none_below x xs rises.1 j d (omega (arith, inside))
never_fall low (x ∷ xs) rises (suc i) zero d order inside = absurd (omega (arith, order))
never_fall low (x ∷ xs) rises (suc i) (suc j) d order inside =
    never_fall x xs rises.1 i j d (omega (arith, order)) (omega (arith, inside))

pub places_never_fall : (clock : Clock) (n : ℕ) → IsNonDecreasing (tick_places clock n)
places_never_fall clock n = never_fall 0 (tick_places clock n) (places_rise clock n)

-- a place more of those that are left
pub one_place : (place : ℤ → ℕ) (second : ℤ) (left rest : List ℤ) (found new all : List ℕ) (at : ℕ) →
    left ≡ second ∷ rest → at ≡ place second → new ≡ found ++ at ∷ [] →
    found ++ map place left ≡ all → new ++ map place rest ≡ all
one_place place second left rest found new all at splits is pushed whole =
    ap (λ xs. xs ++ map place rest) pushed
    ∙ append_assoc found (at ∷ []) (map place rest)
    ∙ ap (λ p. found ++ p ∷ map place rest) is
    ∙ ap (λ xs. found ++ map place xs) (sym splits)
    ∙ whole
