use Rattle.std.proofs.Common.{rules, append_assoc}
use Rattle.pq_report.proofs.whole_report.push_moments.Goals as goal

-- one piece after another
pub returns : goal.returns
returns c = search (rules, append_assoc)
