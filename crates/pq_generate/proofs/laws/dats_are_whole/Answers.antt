use Rattle.pq_generate.proofs.RecordLemmas.{dats_whole}
use Rattle.pq_generate.proofs.laws.dats_are_whole.Goals as goal

pub returns : goal.returns
returns c = dats_whole
