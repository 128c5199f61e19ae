-- What a detector gives over a whole list: the events of the list, each at the window that ends it.
use Rattle.std.specs.Prelude.{◌≡◌, ℕ, false, List, [], ◌∷◌, ◌++◌, flat_map, Option, Some, option_to_list, slice_get}
use Rattle.event_detect.specs.declared.event.Event.{Event}
use Rattle.event_detect.specs.VoltageEvent.{Condition, events}
use Rattle.event_detect.specs.Detector.{Watch, HasSeen, Ends, SeesMore, LeavesOpen}

-- a detector steps over the conditions, one after another: an answer at each, and the detector after them
abbrev pub StepsOver : Watch → List Condition → List (Option Event) → Watch → Type 0
StepsOver w [] [] last = last ≡ w
StepsOver w (c ∷ cs) (a ∷ more) last =
    (next : Watch) × Ends w c a × SeesMore w next c × (next.kind ≡ w.kind) × StepsOver next cs more last
StepsOver w [] (a ∷ more) last = ⊥
StepsOver w (c ∷ cs) [] last = ⊥

pub record GivesEvents : Type 0 where
  -- there is no detector that has seen no list at all
  pub some : (w : Watch) → (fed : List Condition) × HasSeen w fed
  -- stepped over any list and finished, a detector that had seen nothing has given the events of the list
  pub all : (n : ℕ) (conditions : List Condition) (first last : Watch) (answers : List (Option Event))
      (final : Option Event)
      → HasSeen first [] → StepsOver first conditions answers last → LeavesOpen last n final
      → flat_map option_to_list answers ++ option_to_list final ≡ events first.kind n conditions
  -- each at the window that ends it
  pub ends_there : (conditions : List Condition) (first last : Watch) (answers : List (Option Event)) (k : ℕ)
      (c : Condition) (event : Event)
      → HasSeen first [] → StepsOver first conditions answers last
      → slice_get conditions k ≡ Some c → slice_get answers k ≡ Some (Some event)
      → (event.end ≡ c.window.end) × (event.is_open ≡ false)
