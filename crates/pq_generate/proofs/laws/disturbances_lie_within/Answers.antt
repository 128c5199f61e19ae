use Rattle.pq_generate.proofs.DisturbanceLemmas.{begin_from, end_by}
use Rattle.pq_generate.proofs.laws.disturbances_lie_within.Goals as goal

pub returns : goal.returns
returns c = record { begin = begin_from; end = end_by }
