-- What contracts see of a chopper, over the elements that it was fed.
use Rattle.std.specs.Prelude.{◌≡◌, ℕ, ◌≤◌, Bool, true, List, [], ◌∷◌, ◌++◌, length, Option}
use Rattle.ten_twelve.specs.declared.span.Span.{Span}
use Rattle.ten_twelve.specs.Run.{Element, PendingRun, pending_runs, CompletesAtLast}

-- a chopper: how many elements a run has, and the runs that lack elements, the oldest first
pub record ChopperView : Type 0 where
  pub length : ℕ
  pub pending : List PendingRun

-- the first element is a front (profile)
abbrev pub BeginsAtFront : List Element → Type 0
BeginsAtFront [] = Unit {0}
BeginsAtFront (e ∷ es) = e.front ≡ true

-- a list that a chopper may be fed: the first element is a front, and at most two runs lack elements
-- (profile)
pub record IsFed (length_of_run : ℕ) (elements : List Element) : Type 0 where
  pub first : BeginsAtFront elements
  pub few : length (pending_runs length_of_run elements) ≤ 2

-- a chopper has seen these elements: what it holds is their runs that lack elements
abbrev pub HasSeen : ChopperView → List Element → Type 0
HasSeen c fed = c.pending ≡ pending_runs c.length fed

-- what a chopper is fed at once
abbrev pub element_of : Bool → Span → Element
element_of front span = record { front = front; span = span }

-- the element may follow some list that the chopper has seen
abbrev pub MayFollow : ChopperView → Element → Type 0
MayFollow c e = (fed : List Element) × HasSeen c fed × IsFed c.length (fed ++ e ∷ [])

-- whatever list the chopper has seen that the element may follow, the element completes this run, or none
abbrev pub Completes : ChopperView → Element → Option Span → Type 0
Completes c e answer =
    (fed : List Element) → HasSeen c fed → IsFed c.length (fed ++ e ∷ [])
    → CompletesAtLast c.length fed e answer

-- whatever list the chopper had seen that the element may follow, it has now seen one more
abbrev pub SeesMore : ChopperView → ChopperView → Element → Type 0
SeesMore old new e =
    (fed : List Element) → HasSeen old fed → IsFed old.length (fed ++ e ∷ []) → HasSeen new (fed ++ e ∷ [])
