use Rattle.std.proofs.Common.{◌≤◌, ◌-◌, length, take, All}
use Rattle.interval_ledger.proofs.segments.passed_by.Given as goal

-- those so far do not lie after it
abbrev pub invariant-loop-passed : goal.invariant-loop-passed
invariant-loop-passed l = record {
  there : l.passed ≤ length l.places;
  earlier : All (λ p. p ≤ l.before) (take l.passed l.places);
}

abbrev pub decreases-loop-passed : goal.decreases-loop-passed
decreases-loop-passed l = length l.places - l.passed
