-- The answers of a schedule that was read, and the refusal of one that wasn't.
use Rattle.std.proofs.Common.{◌≡◌, ◌∙◌, ◌⊎◌, List, Result, Ok, Err, inl, inr, ap, sym}
use Rattle.event_detect.specs.declared.limits.Limits.{Limits}
use Rattle.lanes.specs.Lane.{lane_count}
use Rattle.pq_base.specs.Recorded.{Recorded}
use Rattle.pq_replay.specs.AnswerLines.{replay_text}
use Rattle.pq_replay.specs.Schedule.{schedule_of}
use Rattle.pq_replay.specs.declared.fault.ScheduleFault.{ScheduleFault}
use Rattle.pq_replay.specs.declared.fault.ScheduleFault.TheVariants as fault
use Rattle.pq_replay.specs.declared.line.Line.{Line}
use Rattle.pq_run.specs.Replaying.{schedule_answers, schedule_refusal}
use Rattle.pq_words.specs.FirstFault.{◌>>=◌}
use Rattle.pq_words.specs.Text.{Text}
use Rattle.status_text.specs.Refusals.{or_refused}
use Rattle.status_text.specs.declared.status.Status.{Status}
use Rattle.status_text.specs.declared.status.Status.TheVariants as status

-- the answers of what was read
abbrev answers_of : Limits → Recorded → Result (List Line) ScheduleFault → Result Text Status
answers_of limits r read =
    or_refused schedule_refusal read >>= (λ lines. Ok (replay_text r limits lines))

pub answered : (limits : Limits) (r : Recorded) (schedule : Text) (lines : List Line) (text : Text)
    → schedule_of (lane_count r) schedule ≡ Ok lines → text ≡ replay_text r limits lines
    → schedule_answers limits r schedule ≡ Ok text
unfolding schedule_answers
answered limits r schedule lines text read is = ap (answers_of limits r) read ∙ ap (λ t. Ok t) (sym is)

pub refused_answers : (limits : Limits) (r : Recorded) (schedule : Text) (why : ScheduleFault) (s : Status)
    → (why ≡ fault.OutOfMemory) ⊎ (schedule_of (lane_count r) schedule ≡ Err why) → s ≡ schedule_refusal why
    → (s ≡ status.OutOfMemory) ⊎ (schedule_answers limits r schedule ≡ Err s)
unfolding schedule_answers
refused_answers limits r schedule why s (inl memory) is = inl (is ∙ ap schedule_refusal memory)
refused_answers limits r schedule why s (inr found) is =
    inr (ap (answers_of limits r) found ∙ ap (λ x. Err x) (sym is))
