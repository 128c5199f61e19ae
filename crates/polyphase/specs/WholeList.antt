-- What a Poly gives over a whole list: the events of all kinds, each at the window that ends it.
use Rattle.std.specs.Prelude.{◌≡◌, ℕ, false, List, [], ◌∷◌, ◌++◌, flat_map, Option, Some, option_to_list, slice_get}
use Rattle.event_detect.specs.declared.event.Event.{Event}
use Rattle.event_detect.specs.declared.kind.Kind.{Kind}
use Rattle.polyphase.specs.PolyphaseEvent.{ChannelWindow, polyphase_events}
use Rattle.polyphase.specs.Poly.{PolyView, HasSeen, Ends, SeesMore, LeavesOpen, answer_of}

-- the setting stays
abbrev pub KeepsSetting : PolyView → PolyView → Type 0
KeepsSetting old new = (new.channels ≡ old.channels) × (new.limits ≡ old.limits)

-- a Poly steps over the windows, one after another: three answers at each, and the Poly after them
abbrev pub StepsOver : PolyView → List ChannelWindow → List (List (Option Event)) → PolyView → Type 0
StepsOver p [] [] last = last ≡ p
StepsOver p (m ∷ ms) (a ∷ more) last =
    (next : PolyView) × Ends p m a × SeesMore p next m × KeepsSetting p next × StepsOver next ms more last
StepsOver p [] (a ∷ more) last = ⊥
StepsOver p (m ∷ ms) [] last = ⊥

-- the events of a kind among answers
abbrev pub given_of : Kind → List (List (Option Event)) → List Event
given_of kind answers = flat_map (λ a. option_to_list (answer_of kind a)) answers

pub record GivesPolyphaseEvents : Type 0 where
  -- stepped over any list of windows, as the merged ones are, and finished, a Poly that had seen nothing has
  -- given the events of the list, of each kind
  pub all : (kind : Kind) (n : ℕ) (merged : List ChannelWindow) (first last : PolyView)
      (answers : List (List (Option Event))) (final : List (Option Event))
      → HasSeen first [] → StepsOver first merged answers last → LeavesOpen last n final
      → given_of kind answers ++ option_to_list (answer_of kind final)
      ≡ polyphase_events kind first.limits first.channels n merged
  -- each at the window that ends it
  pub ends_there : (kind : Kind) (merged : List ChannelWindow) (first last : PolyView)
      (answers : List (List (Option Event)))
      (k : ℕ) (m : ChannelWindow) (a : List (Option Event)) (event : Event)
      → HasSeen first [] → StepsOver first merged answers last
      → slice_get merged k ≡ Some m → slice_get answers k ≡ Some a → answer_of kind a ≡ Some event
      → (event.kind ≡ kind) × (event.end ≡ m.window.end) × (event.is_open ≡ false)
  -- and it has then seen the list
  pub seen : (merged : List ChannelWindow) (first last : PolyView) (answers : List (List (Option Event)))
      → HasSeen first [] → StepsOver first merged answers last → HasSeen last merged
