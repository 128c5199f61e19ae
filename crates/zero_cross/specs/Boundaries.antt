-- What contracts see of `Boundaries`: the list of the boundaries that are left.
use Rattle.std.specs.Prelude.{◌<◌, List, length, ℤ, Option, IfSome}
use Rattle.zero_cross.specs.declared.boundary.Boundary.{Boundary}
use Rattle.zero_cross.specs.declared.rule.Rule.{Rule}
use Rattle.zero_cross.specs.Boundary.{IsRule, boundary_after}
use Rattle.pq_words.specs.Successors.{successors}

-- the boundary that comes next and those after it, or none
unfoldable pub boundaries_from : List ℤ → Rule → Option Boundary → List Boundary
boundaries_from s rule upcoming = successors (boundary_after s rule) (length s) upcoming

-- the rule is one, and the boundary that comes next is a place in the signal
pub record IsWalk (s : List ℤ) (rule : Rule) (upcoming : Option Boundary) : Type 0 where
  pub is_rule : IsRule rule
  pub inside : IfSome upcoming (λ b. b.place < length s)
