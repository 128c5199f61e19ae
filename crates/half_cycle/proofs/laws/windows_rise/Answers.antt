use Rattle.half_cycle.proofs.WindowBounds.{windows_rise}
use Rattle.half_cycle.proofs.laws.windows_rise.Goals as goal

pub returns : goal.returns
returns c = windows_rise
