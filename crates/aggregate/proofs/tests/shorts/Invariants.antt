use Rattle.std.proofs.Common.{◌≡◌}
use Rattle.aggregate.proofs.tests.shorts.Given as goal

-- there is one channel
abbrev pub invariant-loop-k : goal.invariant-loop-k
invariant-loop-k l = l.sums.channels ≡ 1
