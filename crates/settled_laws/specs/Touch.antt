-- The subject: what touches a span that ends after the start of each window so far. Profile.
use Rattle.std.specs.Prelude.{ℕ, Bool, ◌||◌, nat_lt, List, is_some}
use Rattle.event_detect.specs.declared.kind.Kind.{Kind}
use Rattle.event_detect.specs.declared.limits.Limits.{Limits}
use Rattle.settled_laws.specs.Greatest.{greatest_end}
use Rattle.event_detect.specs.VoltageEvent.{ended_events, open_start}
use Rattle.polyphase.specs.PolyphaseEvent.{ChannelWindow, conditions}

-- the greatest end of the events of a kind that the windows have ended, and 0 of none
abbrev pub latest_end : Kind → Limits → ℕ → List ChannelWindow → ℕ
latest_end kind limits channels merged =
    greatest_end (ended_events kind (conditions kind limits channels merged))

-- an event of the kind runs
abbrev pub runs_on : Kind → Limits → ℕ → List ChannelWindow → Bool
runs_on kind limits channels merged = is_some (open_start kind (conditions kind limits channels merged))

-- one has ended after the start, or runs
abbrev pub touches_now : Kind → Limits → ℕ → ℕ → List ChannelWindow → Bool
touches_now kind limits channels start merged = nat_lt start (latest_end kind limits channels merged) ||
    runs_on kind limits channels merged
