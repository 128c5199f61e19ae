use Rattle.std.proofs.Common.{◌≡◌, ◌++◌, drop}
use Rattle.pq_sequence.proofs.TouchLemmas.{carried}
use Rattle.pq_sequence.proofs.touches.reaches_in_order.Given as goal

-- the reaches so far, and those of the events that are left
abbrev pub invariant-loop-event : goal.invariant-loop-event
invariant-loop-event l = l.found.items ++ carried l.furthest (drop l.event-index l.events)
    ≡ carried 0 l.events
