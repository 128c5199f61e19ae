-- The subject: the courses of the top calls, each with commands of its own (profile).
use Rattle.std.specs.Prelude.{Bool, false, ◌||◌, if◌then◌else◌, List, [], ◌∷◌, Result, Ok, Err, String, codes}
use Rattle.std.specs.Str.{bytes_eq}
use Rattle.std.specs.declared.alloc.Global.{Global}
use Rattle.command_words.specs.Commands.{Task, Check, Intervals, Analyse, Emit, Generate, Replay, task_of, words_view}
use Rattle.command_words.specs.declared.command.WordsFault.{WordsFault}
use Rattle.pq_course.specs.TopCall.{Call, IsTopCall}
use Rattle.pq_course.specs.Verdict.{Refused, Course, Ends}
use Rattle.pq_run.specs.Check.{check_course}
use Rattle.pq_run.specs.Emitting.{emit_course}
use Rattle.pq_run.specs.Generating.{generate_course}
use Rattle.pq_run.specs.Measuring.{measuring_course}
use Rattle.pq_run.specs.Replaying.{replay_course}
use Rattle.pq_words.specs.Text.{Text}
use Rattle.status_text.specs.declared.status.Status.{Status}
use Rattle.status_text.specs.declared.status.Status.TheVariants as status

-- the course of `still`: its commands are `check`, `intervals`, `replay` and `emit`, and any other words are
-- refused as usage
abbrev pub still_task_course : Result Task WordsFault → Course Status
still_task_course (Ok (Check cfg)) = check_course cfg
still_task_course (Ok (Intervals m)) = measuring_course m
still_task_course (Ok (Replay m schedule)) = replay_course m schedule
still_task_course (Ok (Emit part seed)) = emit_course part seed
still_task_course _ = Ends (Refused status.Usage)

abbrev pub still_course : List (String Global) → Course Status
still_course words = still_task_course (task_of (words_view words))

-- the course of `analyse`: its commands are `analyse` and `generate`, and any other words are refused as
-- usage
abbrev pub analyse_task_course : Result Task WordsFault → Course Status
analyse_task_course (Ok (Analyse m)) = measuring_course m
analyse_task_course (Ok (Generate seed)) = generate_course seed
analyse_task_course _ = Ends (Refused status.Usage)

abbrev pub analyse_course : List (String Global) → Course Status
analyse_course words = analyse_task_course (task_of (words_view words))

-- the promises of each call
abbrev pub IsAnalyseCall : List (String Global) → Call → Status → Type 0
IsAnalyseCall words call s = IsTopCall (analyse_course words) call s

abbrev pub IsStillCall : List (String Global) → Call → Status → Type 0
IsStillCall words call s = IsTopCall (still_course words) call s

-- the first word names a command of `analyse`
abbrev pub is_for_analyse : List Text → Bool
is_for_analyse [] = false
is_for_analyse (word ∷ rest) = bytes_eq word (codes "analyse") || bytes_eq word (codes "generate")

-- the course of a run: that of the call which the first word names
abbrev pub run_course : List (String Global) → Course Status
run_course words = if is_for_analyse (words_view words) then analyse_course words else still_course words
