use Rattle.std.proofs.Common.{arith}
use Rattle.std.proofs.lemmas.Grind.{common_steps}
use Rattle.fixed_rms.specs.Root.{mean_of_squares, root_mean}
use Rattle.fixed_rms.proofs.RootLaws.{square_within}
use Rattle.fixed_rms.proofs.mean_root.root_mean.Goals as goal

-- one more square, which is not too large
pub loop-value-preserved : goal.loop-value-preserved
loop-value-preserved c = grind (arith, common_steps, square_within)

-- the sum is that of the whole list
pub returns-clause-value : goal.returns-clause-value
unfolding root_mean mean_of_squares
returns-clause-value c = grind (arith, common_steps)

-- and so is the mean, whose greatest root it is
pub returns-clause-greatest : goal.returns-clause-greatest
unfolding mean_of_squares
returns-clause-greatest c = grind (arith, common_steps)
