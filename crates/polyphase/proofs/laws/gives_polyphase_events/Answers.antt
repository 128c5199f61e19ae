use Rattle.polyphase.proofs.WholeListLaws.{gives_polyphase_events}
use Rattle.polyphase.proofs.laws.gives_polyphase_events.Goals as goal

pub returns : goal.returns
returns c = gives_polyphase_events
