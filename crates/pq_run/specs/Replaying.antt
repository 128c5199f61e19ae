-- The subject: the course of the command `replay`, whose job is the answers of a schedule over a recording
-- (profile).
use Rattle.std.specs.Prelude.{Result, Ok}
use Rattle.command_words.specs.Commands.{Measurement, measuring_view}
use Rattle.command_words.specs.declared.command.Measuring.{Measuring}
use Rattle.event_detect.specs.declared.limits.Limits.{Limits}
use Rattle.lanes.specs.Lane.{lane_count}
use Rattle.pq_base.specs.Recorded.{Recorded}
use Rattle.pq_course.specs.InputFile.{asks_for}
use Rattle.pq_course.specs.Judged.{goes_on}
use Rattle.pq_course.specs.Parts.{IsRead}
use Rattle.pq_course.specs.TopCall.{Reading}
use Rattle.pq_course.specs.Verdict.{Job, Course, Ends}
use Rattle.pq_course.specs.declared.input_file.InputFile.TheVariants as file
use Rattle.pq_replay.specs.AnswerLines.{replay_text}
use Rattle.pq_replay.specs.Schedule.{schedule_of}
use Rattle.pq_replay.specs.declared.fault.ScheduleFault.{ScheduleFault}
use Rattle.pq_replay.specs.declared.fault.ScheduleFault.TheVariants as fault
use Rattle.pq_run.specs.RecordingFiles.{recording_course}
use Rattle.pq_run.specs.SettingsLimits.{settings_limits}
use Rattle.pq_words.specs.FirstFault.{◌>>=◌}
use Rattle.pq_words.specs.Text.{Text}
use Rattle.status_text.specs.Refusals.{or_refused}
use Rattle.status_text.specs.declared.status.Status.{Status}
use Rattle.status_text.specs.declared.status.Status.TheVariants as status

-- the refusal of a schedule
abbrev pub schedule_refusal : ScheduleFault → Status
schedule_refusal (fault.Line line) = status.ScheduleFault line
schedule_refusal fault.OutOfMemory = status.OutOfMemory

-- a schedule for the lanes of a recording: its answer lines, or its refusal
unfoldable pub schedule_answers : Limits → Recorded → Text → Result Text Status
schedule_answers limits r schedule = do
  lines ← or_refused schedule_refusal (schedule_of (lane_count r) schedule)
  Ok (replay_text r limits lines)

-- the schedule is asked for
abbrev pub schedule_course : Text → Limits → Recorded → Course Status
schedule_course name limits r =
    asks_for file.Schedule name (λ text. goes_on (schedule_answers limits r text) (λ t. Ends (Job t)))

-- the settings are judged, then the cfg and the dat, and then the schedule
abbrev pub replay_course : Measurement → Text → Course Status
replay_course m name =
    goes_on (settings_limits m.settings) (λ limits. recording_course m (schedule_course name limits))

-- the files of a replay were read for its answers
abbrev pub IsReplayRead : Measuring → Text → Reading → Result Text Status → Type 0
IsReplayRead m name r result = IsRead (replay_course (measuring_view m) name) r result
