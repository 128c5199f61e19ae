use Rattle.std.proofs.Common.{arith}
use Rattle.std.proofs.lemmas.Grind.{common_steps}
use Rattle.fixed_rms.proofs.mean_root.sum_of_any.Goals as goal

-- the sum is that of the whole list
pub returns : goal.returns
returns c = grind (arith, common_steps)
