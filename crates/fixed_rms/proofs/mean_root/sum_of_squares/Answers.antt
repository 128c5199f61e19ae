use Rattle.std.proofs.Common.{rules}
use Rattle.fixed_rms.proofs.RootLaws.{squares_within}
use Rattle.fixed_rms.proofs.mean_root.sum_of_squares.Goals as goal

-- either way it is the sum, which is not too large
pub returns-in-Some-clause-within : goal.returns-in-Some-clause-within
returns-in-Some-clause-within c = search (rules, squares_within)

pub returns-in-None-clause-within : goal.returns-in-None-clause-within
returns-in-None-clause-within c = search (rules, squares_within)
