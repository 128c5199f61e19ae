use Rattle.std.proofs.Common.{rules}
use Rattle.pq_generate.specs.GeneratedRecording.{cfg_text}
use Rattle.pq_generate.proofs.made.cfg_bytes.Goals as goal

pub returns : goal.returns
unfolding cfg_text
returns c = search rules
