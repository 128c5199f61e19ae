-- What contracts see of a watch: a Poly, and for each kind the greatest end of the events that it has ended.
use Rattle.std.specs.Prelude.{◌≡◌, ℕ, Bool, max, List, [], ◌∷◌, ◌++◌, Option, None}
use Rattle.std.specs.List.{list_any}
use Rattle.std.specs.Option.{option_map_or}
use Rattle.event_detect.specs.declared.event.Event.{Event}
use Rattle.event_detect.specs.declared.kind.Kind.{Kind}
use Rattle.event_detect.specs.declared.kind.Kind.TheVariants.{Dip, Swell, Interruption}
use Rattle.event_detect.specs.declared.limits.Limits.{Limits}
use Rattle.polyphase.specs.Poly.{PolyView, Ends, HasSeen as HasSeenByPoly, answer_of}
use Rattle.polyphase.specs.PolyphaseEvent.{ChannelWindow, kinds}
use Rattle.settled_laws.specs.Touch.{latest_end, touches_now}

pub record WatchView : Type 0 where
  pub poly : PolyView
  pub dip : ℕ
  pub swell : ℕ
  pub interruption : ℕ

-- the greatest end of the kind
abbrev pub end_of_kind : WatchView → Kind → ℕ
end_of_kind w Dip = w.dip
end_of_kind w Swell = w.swell
end_of_kind w Interruption = w.interruption

-- a watch has seen these windows
pub record HasSeen (w : WatchView) (fed : List ChannelWindow) : Type 0 where
  pub poly : HasSeenByPoly w.poly fed
  pub ends : (kind : Kind) → end_of_kind w kind ≡ latest_end kind w.poly.limits w.poly.channels fed

-- whatever a watch had seen, it has now seen one more window
abbrev pub SeesMore : WatchView → WatchView → ChannelWindow → Type 0
SeesMore old new m = (fed : List ChannelWindow) → HasSeen old fed → HasSeen new (fed ++ m ∷ [])

-- one more window ends no event, and has been seen
pub record Passes (old new : WatchView) (m : ChannelWindow) : Type 0 where
  pub ends : Ends old.poly m (None ∷ None ∷ None ∷ [])
  pub sees : SeesMore old new m

-- a watch for so many channels, with these thresholds
pub record HasSetting (w : WatchView) (channels : ℕ) (limits : Limits) : Type 0 where
  pub channels_same : w.poly.channels ≡ channels
  pub limits_same : w.poly.limits ≡ limits

-- one greatest end, and that of an event more, if there is one
abbrev pub later_end : ℕ → Option Event → ℕ
later_end end event = max end (option_map_or (λ e. e.end) event 0)

-- the greatest ends went on with those of these events of the kinds in order
abbrev pub NotesEnds : WatchView → WatchView → List (Option Event) → Type 0
NotesEnds old new answers = (kind : Kind) →
    end_of_kind new kind ≡ later_end (end_of_kind old kind) (answer_of kind answers)

-- whatever a watch has seen, this tells of a kind whether one of its events touches a span from this place on
abbrev pub TellsKind : WatchView → Kind → ℕ → Bool → Type 0
TellsKind w kind start answer = (fed : List ChannelWindow) → HasSeen w fed →
    answer ≡ touches_now kind w.poly.limits w.poly.channels start fed

-- and so of all kinds
abbrev pub TellsTouch : WatchView → ℕ → Bool → Type 0
TellsTouch w start answer = (fed : List ChannelWindow) → HasSeen w fed →
    answer ≡ list_any (λ kind. touches_now kind w.poly.limits w.poly.channels start fed) kinds
