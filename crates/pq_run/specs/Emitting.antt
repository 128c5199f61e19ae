-- The subject: the course of the command `emit`, whose job is a file of a generated recording (profile).
use Rattle.std.specs.Prelude.{ℕ}
use Rattle.command_words.specs.declared.command.Part.{Part}
use Rattle.command_words.specs.declared.command.Part.TheVariants as part
use Rattle.pq_course.specs.Verdict.{Job, Course, Ends}
use Rattle.pq_generate.specs.GeneratedRecording.{cfg_text, dat_text}
use Rattle.pq_words.specs.Text.{Text}
use Rattle.status_text.specs.declared.status.Status.{Status}

-- the file of the recording that a seed makes
abbrev pub emitted_text : Part → ℕ → Text
emitted_text part.Cfg seed = cfg_text
emitted_text part.Dat seed = dat_text seed

-- no file is asked for
abbrev pub emit_course : Part → ℕ → Course Status
emit_course part seed = Ends (Job (emitted_text part seed))
