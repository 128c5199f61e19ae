-- The laws are lemmas.
use Rattle.lanes.proofs.LaneOrder.{all_tell}
use Rattle.lanes.proofs.laws.reaches_tell.Goals as goal

pub returns : goal.returns
returns c = all_tell
