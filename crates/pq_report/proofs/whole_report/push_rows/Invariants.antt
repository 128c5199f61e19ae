use Rattle.std.proofs.Common.{◌≡◌, ◌++◌, take}
use Rattle.pq_report.specs.ReportText.{item_rows}
use Rattle.pq_report.proofs.whole_report.push_rows.Given as goal

-- the rows so far
abbrev pub invariant-loop-item : goal.invariant-loop-item
invariant-loop-item l = l.text.items ≡ l.initial.text.items ++ item_rows l.clock (take l.item-index l.items)
