use Rattle.std.proofs.Common.{Ok, Err, inr, sym}
use Rattle.command_words.specs.Commands.{Measurement, measuring_view}
use Rattle.event_detect.specs.declared.limits.Limits.{Limits}
use Rattle.pq_base.specs.Recorded.{Recorded}
use Rattle.pq_course.proofs.ReadingLemmas.{ends_refused, goes_on_good, job, quiet}
use Rattle.pq_course.specs.TopCall.{Reading, reading_of}
use Rattle.pq_run.proofs.PrintingLemmas.{is_err_read}
use Rattle.pq_run.proofs.RecordingLemmas.{quiet_after}
use Rattle.pq_run.specs.Measuring.{report_course, report_text}
use Rattle.pq_run.specs.SettingsLimits.{settings_limits}
use Rattle.pq_words.specs.Text.{Text}
use Rattle.status_text.specs.declared.status.Status.{Status}
use Rattle.pq_run.proofs.measuring.read_measurement.Goals as goal

-- the settings are refused, and no file is asked for
pub returns-in_err-limits-clause-read : goal.returns-in_err-limits-clause-read
returns-in_err-limits-clause-read g c =
    let told = g.K.Shelf in
    let m : Measurement = measuring_view c.args.measuring.now in
    let why : Status = c.in_err-limits.field-0.0 in
    let r : Reading = reading_of told c.args.shelf.now c.args.shelf.now in
    is_err_read _ _ c.from_residual.result why c.from_residual.ensures.1
    (ends_refused (settings_limits m.settings) why _ r (inr (sym c.in_err-limits.ensures.value))
    c.in_err-limits.ensures.refuses (quiet told c.args.shelf.now))

-- there is no recording
pub returns-in_err-recording-clause-read : goal.returns-in_err-recording-clause-read
returns-in_err-recording-clause-read g c =
    let m : Measurement = measuring_view c.args.measuring.now in
    let limits : Limits = c.in_ok-limits.limits in
    let why : Status = c.in_err-recording.field-0.0 in
    is_err_read _ _ c.from_residual-in_err-recording.result why c.from_residual-in_err-recording.ensures.1
    (goes_on_good (settings_limits m.settings) limits _
    (reading_of g.K.Shelf c.args.shelf.now c.read_recording.new.shelf) (Err why)
    (sym c.in_ok-limits.ensures.value) (c.in_err-recording.ensures.value (report_course limits)))

-- its report is the job
pub returns-clause-read : goal.returns-clause-read
returns-clause-read g c =
    let told = g.K.Shelf in
    let m : Measurement = measuring_view c.args.measuring.now in
    let limits : Limits = c.in_ok-limits.limits in
    let recorded : Recorded = c.in_ok-recording.recording in
    let text : Text = report_text recorded limits in
    goes_on_good (settings_limits m.settings) limits _
    (reading_of told c.args.shelf.now c.read_recording.new.shelf) (Ok text) (sym c.in_ok-limits.ensures.value)
    (c.in_ok-recording.ensures.value (report_course limits) (told.asked c.read_recording.new.shelf)
    (told.faults c.read_recording.new.shelf) (Ok text)
    (job text _ (quiet_after told c.args.shelf.now c.read_recording.new.shelf)))
