use Rattle.std.proofs.Common.{All}
use Rattle.pq_words.specs.declared.limits.TheConstants.{MOST_MICROVOLTS}
use Rattle.pq_words.specs.Magnitude.{IsWithin}
use Rattle.half_cycle.proofs.tests.halved_half_cycles.Given as goal

-- no sample so far is too large
abbrev pub invariant-loop-i : goal.invariant-loop-i
invariant-loop-i l = All (IsWithin MOST_MICROVOLTS) l.samples
