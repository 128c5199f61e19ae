use Rattle.half_cycle.proofs.WindowBounds.{windows_lie}
use Rattle.half_cycle.proofs.laws.windows_lie_within.Goals as goal

pub returns : goal.returns
returns c = windows_lie
