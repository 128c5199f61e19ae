use Rattle.command_words.specs.Commands.{measuring_view}
use Rattle.pq_course.specs.TopCall.{reading_of}
use Rattle.pq_run.proofs.PrintingLemmas.{made}
use Rattle.pq_run.specs.Measuring.{measuring_course, report_text}
use Rattle.pq_run.proofs.measuring.measured_report.Goals as goal

-- the report that was read for, or want of memory
pub returns-in-Ok : goal.returns-in-Ok
returns-in-Ok g c = made (measuring_course (measuring_view c.args.measuring.now))
    (reading_of g.K.Shelf c.args.shelf.now c.read_measurement.new.shelf)
    (report_text c.in-Ok.recording c.in-Ok.limits) c.recording_report.result c.in-Ok.ensures.read
    c.recording_report.ensures.value
