-- The subject: the course of the command `generate`, whose job is the summary of a generated recording
-- (profile).
use Rattle.std.specs.Prelude.{ℕ}
use Rattle.command_words.specs.Values.{usual_settings}
use Rattle.event_detect.specs.Threshold.{limits_of}
use Rattle.event_detect.specs.declared.limits.Limits.{Limits}
use Rattle.pq_course.specs.Verdict.{Job, Course, Ends}
use Rattle.pq_generate.specs.MeasuredRecording.{generated_recording}
use Rattle.pq_generate.specs.declared.samples.TheConstants.{SAMPLES}
use Rattle.pq_report.specs.Summary.{summary_text}
use Rattle.pq_run.specs.declared.generating.TheConstants.{DECLARED_MILLIVOLTS}
use Rattle.pq_sequence.specs.SequentialResult.{sequential}
use Rattle.pq_words.specs.Text.{Text}
use Rattle.status_text.specs.declared.status.Status.{Status}

-- it is measured under 230 V and the usual thresholds
abbrev pub generated_limits : Limits
generated_limits = limits_of (usual_settings DECLARED_MILLIVOLTS)

-- the summary of the recording that a seed makes: of its sequential result
unfoldable pub generated_summary : ℕ → Text
generated_summary seed =
    summary_text seed SAMPLES (sequential (generated_recording seed) generated_limits)

-- no file is asked for
abbrev pub generate_course : ℕ → Course Status
generate_course seed = Ends (Job (generated_summary seed))
