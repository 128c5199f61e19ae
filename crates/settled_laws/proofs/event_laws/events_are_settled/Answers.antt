use Rattle.settled_laws.proofs.EventLaws.{events_settled}
use Rattle.settled_laws.proofs.event_laws.events_are_settled.Goals as goal

pub returns : goal.returns
returns c = events_settled
