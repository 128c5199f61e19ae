use Rattle.std.proofs.Common.{rules, append_assoc}
use Rattle.pq_report.specs.ReportText.{item_row}
use Rattle.pq_report.proofs.whole_report.push_row.Goals as goal

-- one piece after another
pub returns : goal.returns
unfolding item_row
returns c = search (rules, append_assoc)
