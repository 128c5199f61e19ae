use Rattle.std.proofs.Common.{◌≡◌, ◌∙◌, sym, ap, inr, arith, Ok, Err}
use Rattle.pq_report.specs.ReportReading.{fields_read, in_row, rows_read}
use Rattle.pq_report.proofs.ReadingLaws.{fault_given, rows_done, rows_fault, rows_item, rows_unended}
use Rattle.pq_report.proofs.reading.read_rows.Goals as goal
use Rattle.pq_words.specs.Text.{parted_at}

-- a row at fault
pub returns-in_err-in_row : goal.returns-in_err-in_row
returns-in_err-in_row c =
    let clock = c.args.clock.now in
    let row = c.loop-line.row in
    let is : in_row row (fields_read clock (parted_at 44 c.in-Some.line.now)) ≡ Err
    c.in_err-in_row.field-0.0 =
    ap (in_row row) (sym c.read_row.ensures) ∙ sym c.in_row.ensures ∙ c.in_err-in_row.was in
    fault_given c.from_residual.result c.in_err-in_row.field-0.0 (rows_read clock 2
    (parted_at 10 c.args.bytes.now))
    c.from_residual.ensures.1 (c.loop-line.invariant.read
    ∙ rows_fault clock row c.in-Some.line.now c.in-Some.after.now
    c.loop-line.rest.now c.loop-line.items.items c.in_err-in_row.field-0.0 c.in-Some.ensures.value is)

-- one item more
pub loop-line-preserved : goal.loop-line-preserved
loop-line-preserved c =
    let clock = c.args.clock.now in
    let row = c.loop-line.row in
    let is : in_row row (fields_read clock (parted_at 44 c.in-Some.line.now)) ≡ Ok c.in_ok-in_row.field-0 =
    ap (in_row row) (sym c.read_row.ensures) ∙ sym c.in_row.ensures ∙ c.in_ok-in_row.was in
    record {
      read =
          rw c.in_ok-push.ensures.items (c.loop-line.invariant.read ∙ rows_item clock row c.in-Some.line.now
          c.in-Some.after.now c.loop-line.rest.now c.loop-line.items.items c.in_ok-in_row.field-0
          c.in-Some.ensures.value is);
      row = omega (arith, c.loop-line.invariant.row, c.in-Some.ensures.shorter);
    }

-- a row without a line end
pub returns-then-not-is_empty : goal.returns-then-not-is_empty
returns-then-not-is_empty c = inr (c.loop-line.invariant.read ∙ rows_unended c.args.clock.now c.loop-line.row
    c.loop-line.rest.now c.loop-line.items.items c.is_empty.result c.in_default.ensures.none
    c.is_empty.ensures
    c.if-not-is_empty.true)

pub returns : goal.returns
returns c = c.loop-line.invariant.read ∙ rows_done c.args.clock.now c.loop-line.row
    c.loop-line.rest.now c.loop-line.items.items c.is_empty.result c.in_default.ensures.none
    c.is_empty.ensures
    c.if-not-is_empty.false
