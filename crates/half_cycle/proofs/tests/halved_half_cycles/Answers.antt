use Rattle.std.proofs.Common.{pos, arith}
use Rattle.std.proofs.lemmas.Int.{ints}
use Rattle.std.proofs.lemmas.List.Elements.{All-replicate}
use Rattle.pq_words.specs.declared.limits.TheConstants.{MOST_MICROVOLTS}
use Rattle.pq_words.specs.Magnitude.{IsWithin}
use Rattle.half_cycle.proofs.tests.halved_half_cycles.Goals as goal

-- zeros are small
pub loop-i-init : goal.loop-i-init
loop-i-init c =
    All-replicate (IsWithin MOST_MICROVOLTS) 552 (pos 0) (omega (arith, ints), omega (arith, ints))
