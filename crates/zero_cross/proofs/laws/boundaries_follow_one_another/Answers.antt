use Rattle.zero_cross.proofs.BoundaryLaws.{boundaries_begin, boundaries_step}
use Rattle.zero_cross.proofs.laws.boundaries_follow_one_another.Goals as goal

pub returns : goal.returns
returns c = record { zero = boundaries_begin; next = boundaries_step }
