use Rattle.std.proofs.Common.{refl}
use Rattle.command_words.specs.Commands.{measuring_view}
use Rattle.pq_course.specs.TopCall.{Writing, reading_of, writing_of}
use Rattle.pq_run.proofs.PrintingLemmas.{printed}
use Rattle.pq_run.specs.Measuring.{measuring_course, report_text}
use Rattle.pq_run.proofs.measuring.print_report.Goals as goal

-- the report that was read for is printed
pub returns-in-Ok : goal.returns-in-Ok
unfolding report_text
returns-in-Ok g c =
    let w : Writing = writing_of g.O.Sink c.args.out.now c.lane_report.new.out in
    printed (measuring_course (measuring_view c.args.measuring.now))
    (reading_of g.K.Shelf c.args.shelf.now c.read_measurement.new.shelf) w
    (report_text c.in-Ok.recording c.in-Ok.limits) c.lane_report.result c.in-Ok.ensures.read
    c.lane_report.ensures

-- nothing is written
pub returns-in-Err : goal.returns-in-Err
returns-in-Err g c = c.in-Err.ensures.read (writing_of g.O.Sink c.args.out.now c.args.out.now)
    (record { taken = refl; faults = refl })
