use Rattle.pq_sequence.proofs.ResultLaws.{events_placed}
use Rattle.pq_sequence.proofs.laws.events_lie_within.Goals as goal

pub returns : goal.returns
returns c = events_placed
