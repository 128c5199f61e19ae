use Rattle.std.proofs.Common.{rules}
use Rattle.pq_report.specs.ReportText.{header}
use Rattle.pq_report.proofs.whole_report.report.Goals as goal

-- the header, and the rows
pub returns : goal.returns
unfolding header
returns c = search rules
