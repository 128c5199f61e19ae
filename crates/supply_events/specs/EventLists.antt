-- What contracts see of the events of each kind, as they are found.
use Rattle.std.specs.Prelude.{◌≡◌, List, [], ◌++◌, flat_map, Option, option_to_list}
use Rattle.event_detect.specs.declared.event.Event.{Event}
use Rattle.event_detect.specs.declared.kind.Kind.{Kind}
use Rattle.event_detect.specs.declared.kind.Kind.TheVariants.{Dip, Swell, Interruption}
use Rattle.polyphase.specs.Poly.{answer_of}
use Rattle.polyphase.specs.PolyphaseEvent.{kinds}
use Rattle.supply_events.specs.declared.event_lists.EventLists.{EventLists}

-- those of the kind
abbrev pub events_of : EventLists → Kind → List Event
events_of lists Dip = lists.dips.items
events_of lists Swell = lists.swells.items
events_of lists Interruption = lists.interruptions.items

-- no event of any kind
abbrev pub AreEmpty : EventLists → Type 0
AreEmpty lists = (kind : Kind) → events_of lists kind ≡ []

-- those of all kinds, kind by kind
abbrev pub kind_by_kind : EventLists → List Event
kind_by_kind lists = flat_map (events_of lists) kinds

-- the lists grew by these answers, of the kinds in order
abbrev pub AddsAnswers : EventLists → EventLists → List (Option Event) → Type 0
AddsAnswers old new answers = (kind : Kind) →
    events_of new kind ≡ events_of old kind ++ option_to_list (answer_of kind answers)
