use Rattle.pq_replay.proofs.FollowLaws.{schedules_are_answered}
use Rattle.pq_replay.proofs.laws.schedules_are_answered.Goals as goal

pub returns : goal.returns
returns c = schedules_are_answered
