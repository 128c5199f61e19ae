use Rattle.pq_generate.proofs.DisturbanceLemmas.{lie_apart}
use Rattle.pq_generate.proofs.laws.disturbances_lie_apart.Goals as goal

pub returns : goal.returns
returns c = lie_apart
