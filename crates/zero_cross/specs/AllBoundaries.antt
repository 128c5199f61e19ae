-- The subject: laws of the list of all boundaries of a signal; each is the contract of a call of its own.
use Rattle.std.specs.Prelude.{◌≡◌, ℕ, suc, ◌*◌, Bool, true, not, List, [], ◌∷◌, length, ℤ, option_and_then, slice_get}
use Rattle.std.specs.Bool.{⊤}
use Rattle.zero_cross.specs.declared.boundary.Boundary.{Boundary}
use Rattle.zero_cross.specs.declared.rule.Rule.{Rule}
use Rattle.zero_cross.specs.Boundary.{IsRule, AreBoundaries, bound, boundaries, boundary_after, boundary_places, boundary_zero, cycle_boundaries}

-- boundary 0 begins the list, the one after boundary k is boundary k + 1, and the list ends where none
-- follows
pub record BoundariesFollowOneAnother : Type 0 where
  pub zero : (s : List ℤ) (rule : Rule) → IsRule rule → slice_get (boundaries s rule) 0 ≡ boundary_zero s rule
  pub next : (s : List ℤ) (rule : Rule) (k : ℕ) → IsRule rule → slice_get (boundaries s rule) (suc k)
      ≡ option_and_then (boundary_after s rule) (slice_get (boundaries s rule) k)

-- boundaries and cycle boundaries rise, within the signal
pub record BoundariesLieWithin : Type 0 where
  pub all : (s : List ℤ) (rule : Rule) → IsRule rule → AreBoundaries (boundary_places s rule) (length s)
  pub cycles : (s : List ℤ) (rule : Rule) → IsRule rule → AreBoundaries (cycle_boundaries s rule) (length s)

-- the first counts as a rising one or not, and directions change from each to the next
abbrev pub Alternate : Bool → List Boundary → Type 0
Alternate rising [] = ⊤
Alternate rising (b ∷ bs) = (b.rising ≡ rising) × Alternate (not rising) bs

-- boundaries count as rising and falling by turns, from boundary 0 on, which counts as rising
abbrev pub BoundariesAlternate : Type 0
BoundariesAlternate = (s : List ℤ) (rule : Rule) → Alternate true (boundaries s rule)

-- the cycle boundaries are boundaries 0, 2, 4 and so on
abbrev pub CycleBoundariesAreEven : Type 0
CycleBoundariesAreEven = (s : List ℤ) (rule : Rule) (j : ℕ) →
    slice_get (cycle_boundaries s rule) j ≡ bound s rule (2 * j)
