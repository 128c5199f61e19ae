use Rattle.std.proofs.Common.{arith}
use Rattle.std.proofs.lemmas.Grind.{common_steps}
use Rattle.fixed_rms.specs.Root.{mean_square}
use Rattle.fixed_rms.proofs.mean_root.mean_square.Goals as goal

-- the sum is that of the whole list
pub returns-clause-value : goal.returns-clause-value
unfolding mean_square
returns-clause-value c = grind (arith, common_steps)
