use Rattle.pq_replay.proofs.FollowLaws.{cores_follow_phases}
use Rattle.pq_replay.proofs.laws.cores_follow_phases.Goals as goal

pub returns : goal.returns
returns c = cores_follow_phases
