use Rattle.std.proofs.Common.{◌≡◌, ◌∙◌, sym, ap, Ok, Err}
use Rattle.pq_report.specs.ReportReading.{header_read, in_row, report_read, rows_read}
use Rattle.pq_report.proofs.ReadingLaws.{fault_given, given_rows, report_fault, report_rows}
use Rattle.pq_report.proofs.ReadsBackLemmas.{given_within}
use Rattle.pq_report.proofs.reading.read_report.Goals as goal
use Rattle.pq_words.specs.Text.{parted_at}

-- the header is at fault
pub returns-in_err-in_row : goal.returns-in_err-in_row
returns-in_err-in_row c =
    let is : in_row 1 (header_read (parted_at 44 c.in-Some.header.now)) ≡ Err c.in_err-in_row.field-0.0 =
    ap (in_row 1) (sym c.read_header.ensures) ∙ sym c.in_row.ensures ∙ c.in_err-in_row.was in
    let given = fault_given c.from_residual.result c.in_err-in_row.field-0.0
    (report_read c.args.clock.now c.args.bytes.now) c.from_residual.ensures.1
    (report_fault c.args.clock.now c.args.bytes.now c.in-Some.header.now c.in-Some.rows.now
    c.in_err-in_row.field-0.0 c.in-Some.ensures.value is) in
    record {
      value = given;
      within = given_within c.args.clock.now c.args.bytes.now c.from_residual.result
          given;
    }

-- the rows behind it
pub returns : goal.returns
returns c =
    let is : in_row 1 (header_read (parted_at 44 c.in-Some.header.now)) ≡ Ok c.in_ok-in_row.field-0 =
    ap (in_row 1) (sym c.read_header.ensures) ∙ sym c.in_row.ensures ∙ c.in_ok-in_row.was in
    let given = given_rows c.read_rows.result (rows_read c.args.clock.now 2 (parted_at 10 c.in-Some.rows.now))
    (report_read c.args.clock.now c.args.bytes.now) (report_rows c.args.clock.now c.args.bytes.now
    c.in-Some.header.now c.in-Some.rows.now c.in_ok-in_row.field-0 c.in-Some.ensures.value is)
    c.read_rows.ensures in
    record { value = given; within = given_within c.args.clock.now c.args.bytes.now c.read_rows.result given }
