use Rattle.std.proofs.Common.{Err, subst}
use Rattle.lane_reports.proofs.PrintedLaws.{header_cut_off, header_left_off}
use Rattle.lane_reports.specs.PrintedReport.{HandsOver}
use Rattle.pq_course.specs.TopCall.{Writing, writing_of}
use Rattle.pq_report.specs.ReportText.{header}
use Rattle.pq_sequence.specs.MeasuredRecording.{clock_of}
use Rattle.pq_sequence.specs.SequentialResult.{sequential}
use Rattle.lane_reports.proofs.reporting.report_from.Goals as goal

-- the header was cut off
pub returns-in-Err-Failed : goal.returns-in-Err-Failed
returns-in-Err-Failed g c =
    let w : Writing = writing_of g.O.Sink c.args.out.now c.write_header.new.out in
    header_cut_off (clock_of c.args.recording.now) (sequential c.args.recording.now c.args.limits.now) w
    c.faults.result
    (subst (λ e. HandsOver header w (Err e)) c.in-Err-Failed.field-0-is c.in-Err-Failed.ensures)
    c.faults.ensures

-- there was no memory for it
pub returns-in-Err-OutOfMemory : goal.returns-in-Err-OutOfMemory
returns-in-Err-OutOfMemory g c =
    let w : Writing = writing_of g.O.Sink c.args.out.now c.write_header.new.out in
    header_left_off (clock_of c.args.recording.now) (sequential c.args.recording.now c.args.limits.now) w
    (subst (λ e. HandsOver header w (Err e)) c.in-Err-OutOfMemory.field-0-is c.in-Err-OutOfMemory.ensures)
