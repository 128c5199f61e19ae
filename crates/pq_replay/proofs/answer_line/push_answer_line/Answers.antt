use Rattle.std.proofs.Common.{rules, append_assoc}
use Rattle.pq_replay.proofs.answer_line.push_answer_line.Goals as goal

-- one piece after another
pub returns : goal.returns
returns c = search (rules, append_assoc)
