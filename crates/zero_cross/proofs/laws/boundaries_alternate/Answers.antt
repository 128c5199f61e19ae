use Rattle.zero_cross.proofs.BoundaryLaws.{boundaries_alternate}
use Rattle.zero_cross.proofs.laws.boundaries_alternate.Goals as goal

pub returns : goal.returns
returns c = boundaries_alternate
