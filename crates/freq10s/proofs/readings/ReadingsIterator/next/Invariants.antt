use Rattle.std.proofs.Common.{◌≡◌, length}
use Rattle.freq10s.specs.Readings.{IsSound, readings_over}
use Rattle.freq10s.proofs.readings.ReadingsIterator.next.Given as goal

-- what is left after intervals without a reading is all that was
abbrev pub invariant-loop-interval : goal.invariant-loop-interval
invariant-loop-interval l = record {
  same : readings_over l.self-inside.rate l.self-inside.cycles l.self-inside.intervals ≡ l.fn.self;
  sound : IsSound l.self-inside.rate l.self-inside.cycles l.self-inside.intervals;
}

abbrev pub decreases-loop-interval : goal.decreases-loop-interval
decreases-loop-interval l = length l.self-inside.intervals
