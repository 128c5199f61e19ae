use Rattle.zero_cross.proofs.BoundaryLaws.{boundaries_lie, cycles_lie}
use Rattle.zero_cross.proofs.laws.boundaries_lie_within.Goals as goal

pub returns : goal.returns
returns c = record { all = boundaries_lie; cycles = cycles_lie }
