use Rattle.std.proofs.Common.{◌≡◌, ◌+◌}
use Rattle.interval_ledger.proofs.merging.tick_each.Given as goal

-- a step for each so far
abbrev pub invariant-loop : goal.invariant-loop
invariant-loop g l = l.steps ≡ l.fn.steps + l.counter
