use Rattle.std.proofs.Common.{◌≡◌, ◌⊎◌, ◌∙◌, ◌*◌, ◌+◌, List, Result, Err, ap, ap₂, subst, sym}
use Rattle.pq_base.specs.Recorded.{Recorded}
use Rattle.pq_replay.specs.AnswerLines.{replay_text}
use Rattle.pq_replay.specs.Schedule.{schedule_of}
use Rattle.pq_replay.specs.declared.fault.ScheduleFault.{ScheduleFault}
use Rattle.pq_replay.specs.declared.fault.ScheduleFault.TheVariants as fault
use Rattle.pq_replay.specs.declared.line.Line.{Line}
use Rattle.pq_run.proofs.ReplayingLemmas.{answered, refused_answers}
use Rattle.pq_words.specs.Text.{Text}
use Rattle.pq_run.proofs.replaying.schedule_answers.Goals as goal

-- the answers of the lines that were read
pub returns-in_ok-text-in-Ok-clause-value : goal.returns-in_ok-text-in-Ok-clause-value
returns-in_ok-text-in-Ok-clause-value c =
    let limits = c.args.limits.now in
    let recorded : Recorded = c.args.recording.now in
    let schedule : Text = c.args.schedule.now in
    answered limits recorded schedule c.in-Ok.lines.items c.in_ok-text-in-Ok.text
    (sym (ap₂ (λ n b. schedule_of (2 * n + 1) b) c.channels.ensures.value c.bytes.ensures)
    ∙ c.in-Ok.ensures)
    (c.in_ok-text-in-Ok.ensures ∙ ap (replay_text recorded limits) c.deref.ensures.value)

-- the refusal of its first line at fault
pub returns-in-Err-clause-value : goal.returns-in-Err-clause-value
returns-in-Err-clause-value c =
    let why : ScheduleFault = c.in-Err.why in
    refused_answers c.args.limits.now c.args.recording.now c.args.schedule.now why c.schedule_refusal.result
    (subst (λ (read : Result (List Line) ScheduleFault). (why ≡ fault.OutOfMemory) ⊎ (read ≡ Err why))
    (ap₂ (λ n b. schedule_of (2 * n + 1) b) c.channels.ensures.value c.bytes.ensures) c.in-Err.ensures)
    c.schedule_refusal.ensures
