use Rattle.std.proofs.Common.{◌≡◌, take}
use Rattle.interval_ledger.proofs.labels.Labels.of.Given as goal

-- the numbers so far
abbrev pub invariant-loop-position : goal.invariant-loop-position
invariant-loop-position l = l.numbers.items ≡ take l.position l.recording.numbers
