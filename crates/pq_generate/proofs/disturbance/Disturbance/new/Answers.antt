use Rattle.std.proofs.Common.{rules}
use Rattle.pq_generate.specs.GeneratedRecording.{disturbance_by}
use Rattle.pq_generate.proofs.disturbance.Disturbance.new.Goals as goal

pub returns : goal.returns
unfolding disturbance_by
returns c = search rules
