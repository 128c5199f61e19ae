use Rattle.std.proofs.Common.{◌≡◌, length}
use Rattle.freq10s.proofs.tests.sine.Given as goal

-- so many samples so far
abbrev pub invariant-loop-place : goal.invariant-loop-place
invariant-loop-place l = length l.samples.items ≡ l.place
