-- What a chopper gives over a whole list: the runs of the list, each at its last element.
use Rattle.std.specs.Prelude.{◌≡◌, ◌≤◌, ℕ, List, [], ◌∷◌, ◌++◌, flat_map, Option, Some, option_to_list, slice_get}
use Rattle.ten_twelve.specs.declared.span.Span.{Span}
use Rattle.ten_twelve.specs.Chopper.{ChopperView, IsFed, HasSeen, Completes, SeesMore}
use Rattle.ten_twelve.specs.Run.{Element, chopped}

-- after the elements in front, each of the others may be fed
abbrev pub MayAllFollow : ℕ → List Element → List Element → Type 0
MayAllFollow length_of_run front [] = Unit {0}
MayAllFollow length_of_run front (e ∷ es) =
    IsFed length_of_run (front ++ e ∷ []) × MayAllFollow length_of_run (front ++ e ∷ []) es

-- a chopper steps over elements, one after another: an answer at each, and the chopper after them
abbrev pub StepsOver : ChopperView → List Element → List (Option Span) → ChopperView → Type 0
StepsOver c [] [] last = last ≡ c
StepsOver c (e ∷ es) (a ∷ more) last =
    (next : ChopperView) × Completes c e a × SeesMore c next e × (next.length ≡ c.length) ×
    StepsOver next es more last
StepsOver c [] (a ∷ more) last = ⊥
StepsOver c (e ∷ es) [] last = ⊥

pub record GivesRuns : Type 0 where
  -- stepped over any list that may be fed, a chopper that had seen nothing has given the runs of the list
  pub all : (elements : List Element) (first last : ChopperView) (answers : List (Option Span))
      → HasSeen first [] → MayAllFollow first.length [] elements → StepsOver first elements answers last
      → flat_map option_to_list answers ≡ chopped first.length elements
  -- each at its last element
  pub ends_there : (elements : List Element) (first last : ChopperView) (answers : List (Option Span)) (k : ℕ)
      (e : Element) (run : Span) → 1 ≤ first.length
      → HasSeen first [] → MayAllFollow first.length [] elements → StepsOver first elements answers last
      → slice_get elements k ≡ Some e → slice_get answers k ≡ Some (Some run)
      → run.end ≡ e.span.end
