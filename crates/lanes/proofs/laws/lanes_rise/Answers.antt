-- The laws are lemmas.
use Rattle.lanes.proofs.LaneOrder.{all_rise}
use Rattle.lanes.proofs.laws.lanes_rise.Goals as goal

pub returns : goal.returns
returns c = all_rise
