use Rattle.pq_generate.proofs.CountLemmas.{counts_within}
use Rattle.pq_generate.proofs.laws.counts_lie_within.Goals as goal

pub returns : goal.returns
returns c = counts_within
