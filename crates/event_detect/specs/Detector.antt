-- What contracts see of a detector, over the conditions that it was fed.
use Rattle.std.specs.Prelude.{◌≡◌, ℕ, Bool, true, nat_lt, if◌then◌else◌, List, [], ◌∷◌, ◌++◌, Option, option_map}
use Rattle.event_detect.specs.declared.detector.RunningEvent.{RunningEvent}
use Rattle.event_detect.specs.declared.event.Event.{Event}
use Rattle.event_detect.specs.declared.kind.Kind.{Kind}
use Rattle.event_detect.specs.declared.kind.Kind.TheVariants.{Dip, Swell, Interruption}
use Rattle.event_detect.specs.declared.window.Window.{Window}
use Rattle.event_detect.specs.VoltageEvent.{Condition, EndsAtLast, IsLeftOpen, open_start}

-- what is known of an event that runs: its start, its worst value so far and the channel that had this first
pub record OpenEvent : Type 0 where
  pub start : ℕ
  pub channel : ℕ
  pub value : ℕ

-- a detector: its kind and the event that runs, if one does
pub record Watch : Type 0 where
  pub kind : Kind
  pub running : Option OpenEvent

-- what contracts see of the event that a detector keeps
abbrev pub running_view : RunningEvent → OpenEvent
running_view r = record { start = r.start; channel = r.channel; value = r.value }

-- value a is worse than b: less for a dip and an interruption, greater for a swell
abbrev pub is_worse : Kind → ℕ → ℕ → Bool
is_worse Dip a b = nat_lt a b
is_worse Swell a b = nat_lt b a
is_worse Interruption a b = nat_lt a b

-- what is known after one more window: the first of equally bad values stays
abbrev pub with_window : Kind → OpenEvent → ℕ → ℕ → OpenEvent
with_window kind r channel value =
    if is_worse kind value r.value then record { start = r.start; channel = channel; value = value } else r

-- the event up to place `end`
abbrev pub event_until : Kind → OpenEvent → ℕ → Bool → Event
event_until kind r end is_open = record {
  kind = kind;
  start = r.start;
  end = end;
  channel = r.channel;
  value = r.value;
  is_open = is_open;
}

-- an event that runs, open at n
abbrev pub open_at : Kind → ℕ → OpenEvent → Event
open_at kind n r = event_until kind r n true

-- a detector has seen these conditions: the event that runs is the one that they leave open, whatever n they
-- end at
abbrev pub HasSeen : Watch → List Condition → Type 0
HasSeen watch fed = (n : ℕ) → IsLeftOpen watch.kind n fed (option_map (open_at watch.kind n) watch.running)

-- what a detector is fed at once
abbrev pub condition : Bool → Bool → ℕ → Window → Condition
condition begins ends channel window =
    record { begins = begins; ends = ends; channel = channel; window = window }

-- whatever a detector has seen, one more condition ends this event, or none
abbrev pub Ends : Watch → Condition → Option Event → Type 0
Ends watch c answer = (fed : List Condition) → HasSeen watch fed → EndsAtLast watch.kind fed c answer

-- whatever a detector had seen, it has now seen one more condition
abbrev pub SeesMore : Watch → Watch → Condition → Type 0
SeesMore old new c = (fed : List Condition) → HasSeen old fed → HasSeen new (fed ++ c ∷ [])

-- whatever a detector has seen, this event is left open at n, or none
abbrev pub LeavesOpen : Watch → ℕ → Option Event → Type 0
LeavesOpen watch n answer = (fed : List Condition) → HasSeen watch fed → IsLeftOpen watch.kind n fed answer

-- whatever a detector has seen, this is where the event begins that is left open, or none is
abbrev pub StartsOpen : Watch → Option ℕ → Type 0
StartsOpen watch answer = (fed : List Condition) → HasSeen watch fed → answer ≡ open_start watch.kind fed
