-- The subject: the course of a measurement, whose job is the report of a recording (profile).
use Rattle.std.specs.Prelude.{Result, Ok, Err}
use Rattle.command_words.specs.Commands.{Measurement, measuring_view}
use Rattle.command_words.specs.declared.command.Measuring.{Measuring}
use Rattle.event_detect.specs.declared.limits.Limits.{Limits}
use Rattle.pq_base.specs.Recorded.{Recorded}
use Rattle.pq_course.specs.Judged.{goes_on}
use Rattle.pq_course.specs.Parts.{IsRead}
use Rattle.pq_course.specs.TopCall.{Call, Reading, IsTopCall}
use Rattle.pq_course.specs.Verdict.{Job, Course, Ends}
use Rattle.pq_report.specs.ReportText.{rows_text}
use Rattle.pq_run.specs.RecordingFiles.{recording_course}
use Rattle.pq_run.specs.SettingsLimits.{settings_limits}
use Rattle.pq_sequence.specs.MeasuredRecording.{clock_of}
use Rattle.pq_sequence.specs.SequentialResult.{sequential}
use Rattle.pq_words.specs.Text.{Text}
use Rattle.status_text.specs.declared.status.Status.{Status}

-- the report of a recording under limits: its sequential result as rows
unfoldable pub report_text : Recorded → Limits → Text
report_text r limits = rows_text (clock_of r) (sequential r limits)

abbrev pub report_course : Limits → Recorded → Course Status
report_course limits r = Ends (Job (report_text r limits))

-- the settings are judged before any file is asked for
abbrev pub measuring_course : Measurement → Course Status
measuring_course m =
    goes_on (settings_limits m.settings) (λ limits. recording_course m (report_course limits))

-- the files of a measurement were read for its report
abbrev pub IsReportRead : Measuring → Reading → Result Text Status → Type 0
IsReportRead m r result = IsRead (measuring_course (measuring_view m)) r result

-- the same of a recording that was read, with its limits: of its report
abbrev pub report_read : Result (Limits × Recorded) Status → Result Text Status
report_read (Ok m) = Ok (report_text m.1 m.0)
report_read (Err s) = Err s

-- the promises of a call that prints the report of a measurement
abbrev pub IsReportCall : Measuring → Call → Status → Type 0
IsReportCall m call s = IsTopCall (measuring_course (measuring_view m)) call s
