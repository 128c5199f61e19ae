use Rattle.std.proofs.Common.{ℕ, ◌<◌, ◌≤◌}
use Rattle.interval_ledger.specs.Ledger.{reach_of}
use Rattle.worked_ledger.proofs.posting.least_reach.Given as goal

-- no lane so far is settled less far
abbrev pub invariant-loop-lane : goal.invariant-loop-lane
invariant-loop-lane l = (k : ℕ) → k < l.lane → l.least ≤ reach_of l.ledger k
