use Rattle.std.proofs.Common.{Err, inr, sym}
use Rattle.command_words.specs.Commands.{Measurement, measuring_view}
use Rattle.event_detect.specs.declared.limits.Limits.{Limits}
use Rattle.pq_base.specs.Recorded.{Recorded}
use Rattle.pq_course.proofs.ReadingLemmas.{after_file, ends_refused, goes_on_good, is_err, quiet}
use Rattle.pq_course.specs.Judged.{goes_on}
use Rattle.pq_course.specs.TopCall.{Reading, reading_of}
use Rattle.pq_course.specs.Verdict.{Ends, Job}
use Rattle.pq_course.specs.declared.input_file.InputFile.TheVariants as file
use Rattle.pq_run.proofs.RecordingLemmas.{judged_text, read_since}
use Rattle.pq_run.specs.Replaying.{schedule_answers, schedule_course}
use Rattle.pq_run.specs.SettingsLimits.{settings_limits}
use Rattle.pq_words.specs.Text.{Text}
use Rattle.status_text.specs.declared.status.Status.{Status}
use Rattle.pq_run.proofs.replaying.schedule_replay.Goals as goal

-- the settings are refused, and no file is asked for
pub returns-in_err-limits : goal.returns-in_err-limits
returns-in_err-limits g c =
    let told = g.K.Shelf in
    let m : Measurement = measuring_view c.args.measuring.now in
    let why : Status = c.in_err-limits.field-0.0 in
    let r : Reading = reading_of told c.args.shelf.now c.args.shelf.now in
    is_err _ _ c.from_residual.result why c.from_residual.ensures.1
    (ends_refused (settings_limits m.settings) why _ r (inr (sym c.in_err-limits.ensures.value))
    c.in_err-limits.ensures.refuses (quiet told c.args.shelf.now))

-- there is no recording
pub returns-in_err-recording : goal.returns-in_err-recording
returns-in_err-recording g c =
    let m : Measurement = measuring_view c.args.measuring.now in
    let limits : Limits = c.in_ok-limits.limits in
    let why : Status = c.in_err-recording.field-0.0 in
    is_err _ _ c.from_residual-in_err-recording.result why c.from_residual-in_err-recording.ensures.1
    (goes_on_good (settings_limits m.settings) limits _
    (reading_of g.K.Shelf c.args.shelf.now c.read_recording.new.shelf) (Err why)
    (sym c.in_ok-limits.ensures.value)
    (c.in_err-recording.ensures.value (schedule_course c.args.schedule.now limits)))

-- the schedule can't be had
pub returns-in_err-text : goal.returns-in_err-text
returns-in_err-text g c =
    let told = g.K.Shelf in
    let a = c.args.shelf.now in
    let b = c.read_recording.new.shelf in
    let d = c.read_file.new.shelf in
    let m : Measurement = measuring_view c.args.measuring.now in
    let limits : Limits = c.in_ok-limits.limits in
    let recorded : Recorded = c.in_ok-recording.recording in
    let name : Text = c.args.schedule.now in
    let why : Status = c.in_err-text.field-0.0 in
    is_err _ _ c.from_residual-in_err-text.result why c.from_residual-in_err-text.ensures.1
    (goes_on_good (settings_limits m.settings) limits _ (reading_of told a d) (Err why)
    (sym c.in_ok-limits.ensures.value)
    (c.in_ok-recording.ensures.value (schedule_course name limits) (told.asked d) (told.faults d) (Err why)
    (read_since told a b d (schedule_course name limits recorded) (Err why) c.in_ok-recording.ensures.files
    (c.in_err-text.ensures.value (λ t. goes_on (schedule_answers limits recorded t) (λ x. Ends (Job x)))))))

-- its answers, or its refusal
pub returns : goal.returns
returns g c =
    let told = g.K.Shelf in
    let a = c.args.shelf.now in
    let b = c.read_recording.new.shelf in
    let d = c.read_file.new.shelf in
    let m : Measurement = measuring_view c.args.measuring.now in
    let limits : Limits = c.in_ok-limits.limits in
    let recorded : Recorded = c.in_ok-recording.recording in
    let name : Text = c.args.schedule.now in
    let text : Text = c.in_ok-text.text in
    let result = c.schedule_answers.result in
    goes_on_good (settings_limits m.settings) limits _ (reading_of told a d) result
    (sym c.in_ok-limits.ensures.value)
    (c.in_ok-recording.ensures.value (schedule_course name limits) (told.asked d) (told.faults d) result
    (read_since told a b d (schedule_course name limits recorded) result c.in_ok-recording.ensures.files
    (after_file told b d d file.Schedule name
    (λ t. goes_on (schedule_answers limits recorded t) (λ x. Ends (Job x))) text result
    c.in_ok-text.ensures.value c.in_ok-text.ensures.files
    (judged_text (schedule_answers limits recorded text) result (reading_of told d d)
    c.schedule_answers.ensures.value c.schedule_answers.ensures.refuses (quiet told d)))))
