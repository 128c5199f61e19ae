use Rattle.settled_laws.proofs.FewBasics.{intervals_few}
use Rattle.settled_laws.proofs.interval_laws.intervals_are_few.Goals as goal

pub returns : goal.returns
returns c = intervals_few
