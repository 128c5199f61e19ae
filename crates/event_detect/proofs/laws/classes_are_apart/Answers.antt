use Rattle.event_detect.proofs.LimitLaws.{classes_apart}
use Rattle.event_detect.proofs.laws.classes_are_apart.Goals as goal

pub returns : goal.returns
returns c = classes_apart
