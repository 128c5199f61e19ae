use Rattle.zero_cross.proofs.BoundaryLaws.{cycle_boundaries_even}
use Rattle.zero_cross.proofs.laws.cycle_boundaries_are_even.Goals as goal

pub returns : goal.returns
returns c = cycle_boundaries_even
