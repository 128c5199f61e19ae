use Rattle.std.proofs.Common.{◌≡◌, map, take}
use Rattle.pq_report.specs.ReportReading.{kinds}
use Rattle.pq_report.specs.Summary.{fold_of, marked_of, number_of}
use Rattle.pq_report.proofs.result_summary.Tally.of.Given as goal

-- what is counted of the items so far
abbrev pub invariant-loop-item : goal.invariant-loop-item
invariant-loop-item l = record {
  numbers : l.numbers ≡ map (number_of (take l.item-index l.items)) kinds;
  marked : l.marked ≡ map (marked_of (take l.item-index l.items)) kinds;
  fold : l.fold ≡ fold_of (take l.item-index l.items);
}
