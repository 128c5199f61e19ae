use Rattle.pq_sequence.proofs.CutLaws.{cut_begins}
use Rattle.pq_sequence.proofs.laws.cut_is_prefix.Goals as goal

pub returns : goal.returns
returns c = cut_begins
