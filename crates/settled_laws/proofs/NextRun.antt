-- Where starts do not fall: the next run begins a length later, or at a start.
use Rattle.std.proofs.Common.{◌≡◌, ◌⊎◌, ℕ, ◌+◌, ◌≤◌, ◌==◌, Bool, true, false, List, [], ◌∷◌, refl, inl, inr, arith}
use Rattle.std.proofs.lemmas.Bool.Decides.{nat_tests}
use Rattle.pq_sequence.proofs.FrontLemmas.{RisesFrom}
use Rattle.pq_sequence.proofs.NeighbourLaws.{IsIn, IsNext}
use Rattle.pq_sequence.proofs.RunOrder.{next_follows}
use Rattle.ten_twelve.specs.Run.{begins_run}

-- a number is among some, or not
in_or_not : (g : ℕ) (xs : List ℕ) → IsIn g xs ⊎ (IsIn g xs → ⊥)
in_or_not g [] = inr (λ is. is)
in_or_not g (x ∷ xs) = at (g == x) refl (in_or_not g xs)
  where
    same : (g == x) ≡ true → g ≡ x
    same e = grind (arith, nat_tests, e)

    other : (g == x) ≡ false → g ≡ x → ⊥
    other fails e = grind (arith, nat_tests, fails, e)

    at : (b : Bool) → (g == x) ≡ b → IsIn g xs ⊎ (IsIn g xs → ⊥) → IsIn g (x ∷ xs) ⊎ (IsIn g (x ∷ xs) → ⊥)
    at true e rest = inl (inl (same e))
    at false e (inl is) = inl (inr is)
    at false e (inr none) = inr (λ is. elim is [ inl here ↦ other e here | inr later ↦ none later ])

-- the next run begins a length later, or at a start
pub next_far : (starts : List ℕ) (m n x y : ℕ) → 1 ≤ m → RisesFrom 0 starts →
    IsNext (begins_run starts m) n x y → (x + m ≤ y) ⊎ IsIn y starts
next_far starts m n x y some rises next = elim (in_or_not y starts) [
  | inl is ↦ inr is
  | inr none ↦ let e = next_follows starts m n x y some rises next none in inl (omega (arith, e))
]
