use Rattle.supply_events.specs.FirstStart.{IsEarliest}
use Rattle.supply_events.proofs.least.least.Given as goal

-- what was found among the channels so far
abbrev pub invariant-loop-position : goal.invariant-loop-position
invariant-loop-position l = IsEarliest l.channels l.position l.found
