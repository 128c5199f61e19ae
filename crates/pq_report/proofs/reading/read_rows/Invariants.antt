use Rattle.std.proofs.Common.{◌≡◌, ◌+◌, ◌≤◌, length}
use Rattle.pq_report.specs.ReportReading.{rows_read}
use Rattle.pq_report.proofs.ReadingLaws.{after_items}
use Rattle.pq_report.proofs.reading.read_rows.Given as goal
use Rattle.pq_words.specs.Text.{parted_at}

abbrev pub decreases-loop-line : goal.decreases-loop-line
decreases-loop-line l = length l.rest

-- the items so far, and those of the rows that are left
abbrev pub invariant-loop-line : goal.invariant-loop-line
invariant-loop-line l = record {
  read : rows_read l.clock 2 (parted_at 10 l.fn.bytes) ≡ after_items l.items.items
      (rows_read l.clock l.row (parted_at 10 l.rest));
  row : l.row + length l.rest ≤ 2 + length l.fn.bytes;
}
