use Rattle.settled_laws.proofs.IntervalLaws.{intervals_settled}
use Rattle.settled_laws.proofs.interval_laws.intervals_are_settled.Goals as goal

pub returns : goal.returns
returns c = intervals_settled
