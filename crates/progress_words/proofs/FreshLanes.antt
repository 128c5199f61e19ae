-- The passes of the lanes as opening makes them, one after another.
use Rattle.std.proofs.Common.{ℕ, ◌+◌, List, [], ◌∷◌, ◌++◌, length, subst, arith}
use Rattle.progress_words.specs.declared.pass.LanePass.{LanePass}
use Rattle.progress_words.specs.declared.pass.Words.{Words}
use Rattle.progress_words.specs.declared.shared.Shared.{Ghosts}
use Rattle.progress_words.specs.Words.{IsFreshLane, AreFreshLanes}

module _ {V N : Type 0} {g : Ghosts V N} (words : Words V N) (value : V) where
  pub fresh_lanes-snoc : (lane : ℕ) (passes : List (LanePass V N g)) (pass : LanePass V N g)
      → AreFreshLanes words value lane passes → IsFreshLane words value (lane + length passes) pass
      → AreFreshLanes words value lane (passes ++ pass ∷ [])
  fresh_lanes-snoc lane [] pass fresh next =
      (subst (λ (k : ℕ). IsFreshLane words value k pass) (omega arith) next, tt)
  fresh_lanes-snoc lane (x ∷ xs) pass fresh next = (
    fresh.0,
    fresh_lanes-snoc (lane + 1) xs pass fresh.1
        (subst (λ (k : ℕ). IsFreshLane words value k pass) (omega arith) next),
  )
