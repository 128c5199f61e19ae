use Rattle.std.proofs.Common.{take}
use Rattle.pq_sequence.specs.Lists.{Adds}
use Rattle.pq_sequence.specs.SequentialResult.{event_items}
use Rattle.pq_sequence.proofs.items.push_events.Given as goal

-- the events so far
abbrev pub invariant-loop-event : goal.invariant-loop-event
invariant-loop-event l =
    Adds l.fn.items l.items (event_items l.recording (take l.event-index l.events))
