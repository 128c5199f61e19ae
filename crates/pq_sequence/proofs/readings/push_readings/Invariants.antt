use Rattle.std.proofs.Common.{◌≡◌, ◌++◌}
use Rattle.pq_sequence.specs.SequentialResult.{reading_items}
use Rattle.pq_sequence.specs.Touches.{ForEventsOf}
use Rattle.pq_sequence.proofs.readings.push_readings.Given as goal

-- the readings so far and those that are left are all
abbrev pub invariant-loop-reading : goal.invariant-loop-reading
invariant-loop-reading l = ForEventsOf l.reaches (λ events.
    l.items.items ++ reading_items events l.reading-iterator
    ≡ l.fn.items.items ++ reading_items events l.initial.reading-iterator)
