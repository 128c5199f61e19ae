use Rattle.event_detect.proofs.WholeListLaws.{gives_events}
use Rattle.event_detect.proofs.laws.gives_events.Goals as goal

pub returns : goal.returns
returns c = gives_events
