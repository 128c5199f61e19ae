-- The subject: what one more window, basic interval or reading adds to what is known. All of it is profile.
use Rattle.std.specs.Prelude.{◌≡◌, ◌+◌, List, [], ◌∷◌, ◌++◌, flat_map, Option, option_to_list}
use Rattle.aggregate.specs.declared.group.Out.{Out}
use Rattle.aggregate.specs.Aggregation.{Basic}
use Rattle.event_detect.specs.declared.event.Event.{Event}
use Rattle.interval_ledger.specs.Merged.{Merged}
use Rattle.polyphase.specs.Poly.{answer_of}
use Rattle.polyphase.specs.PolyphaseEvent.{kinds}
use Rattle.pq_base.specs.Recorded.{Recorded}
use Rattle.pq_items.specs.declared.item.Item.{Item}
use Rattle.pq_sequence.specs.MeasuredRecording.{shorts_of, tens_of, two_hours_of}
use Rattle.pq_sequence.specs.SequentialResult.{basic_items, event_items, for_each_channel, short_item, ten_item, two_hour_item}

-- nothing is merged
abbrev pub nothing : Merged
nothing = record { windows = 0; basics = 0; readings = 0 }

-- one more window is, one more basic interval, one more reading
abbrev pub with_window : Merged → Merged
with_window m = record { windows = m.windows + 1; basics = m.basics; readings = m.readings }

abbrev pub with_basic : Merged → Merged
with_basic m = record { windows = m.windows; basics = m.basics + 1; readings = m.readings }

abbrev pub with_reading : Merged → Merged
with_reading m = record { windows = m.windows; basics = m.basics; readings = m.readings + 1 }

-- the answers of all kinds, kind by kind
abbrev pub answered : List (Option Event) → List Event
answered answers = flat_map (λ kind. option_to_list (answer_of kind answers)) kinds

-- the events that a window ends, or that are left open, as items
abbrev pub answered_items : Recorded → List (Option Event) → List Item
answered_items r answers = event_items r (answered answers)

-- a basic interval after others completes these intervals
pub record IsCompleted (r : Recorded) (basics : List Basic) (b : Basic) (out : Out) : Type 0 where
  pub short : shorts_of r (basics ++ b ∷ []) ≡ shorts_of r basics ++ option_to_list out.short
  pub ten : tens_of r (basics ++ b ∷ []) ≡ tens_of r basics ++ option_to_list out.ten
  pub two : two_hours_of r (tens_of r (basics ++ b ∷ []))
      ≡ two_hours_of r (tens_of r basics) ++ option_to_list out.two

-- its items, and those of the intervals that it completes
abbrev pub completed_items : Recorded → Basic → Out → List Item
completed_items r b out =
    basic_items r (b ∷ [])
    ++ for_each_channel r (short_item r) (option_to_list out.short)
    ++ for_each_channel r (ten_item r) (option_to_list out.ten)
    ++ for_each_channel r (two_hour_item r) (option_to_list out.two)
