use Rattle.interval_ledger.specs.Earliest.{IsLeastSoFar}
use Rattle.interval_ledger.proofs.first_start.earliest.Given as goal

-- the first of the least of those so far
abbrev pub invariant-loop-k : goal.invariant-loop-k
invariant-loop-k l = IsLeastSoFar l.starts l.until l.k l.least l.found
