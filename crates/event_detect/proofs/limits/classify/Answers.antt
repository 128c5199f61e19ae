-- Each test is the one that the definition names.
use Rattle.std.proofs.Common.{refl}
use Rattle.event_detect.specs.Threshold.{class_of}
use Rattle.event_detect.proofs.limits.classify.Goals as goal

pub returns : goal.returns
unfolding class_of
returns c = refl
