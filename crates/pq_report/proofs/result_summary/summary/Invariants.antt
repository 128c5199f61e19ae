use Rattle.std.proofs.Common.{◌≡◌}
use Rattle.pq_report.proofs.SummaryLemmas.{front_of, lines_to}
use Rattle.pq_report.proofs.result_summary.summary.Given as goal

-- the first two lines, and those of the kinds so far
abbrev pub invariant-loop-rank : goal.invariant-loop-rank
invariant-loop-rank l = l.text.items ≡ lines_to (front_of l.seed l.samples) l.items l.rank
