use Rattle.std.proofs.Common.{◌∙◌, sym, ap, subst, Result, Ok, Err}
use Rattle.command_words.specs.Commands.{Task, command_view}
use Rattle.command_words.specs.declared.command.Command.{Command}
use Rattle.command_words.specs.declared.command.WordsFault.{WordsFault}
use Rattle.pq_course.proofs.ReadingLemmas.{out_of_memory, quiet, refused}
use Rattle.pq_course.specs.Parts.{IsRead}
use Rattle.pq_course.specs.TopCall.{Reading, reading_of}
use Rattle.pq_run.proofs.RecordingLemmas.{judged_text}
use Rattle.pq_run.specs.Emitting.{emitted_text}
use Rattle.pq_run.specs.Commands.{still_course, still_task_course}
use Rattle.status_text.specs.declared.status.Status.TheVariants as status
use Rattle.pq_run.proofs.top_call.still_text.Goals as goal

-- what the words say is this command, so its course is that of the words
pub returns-in-Ok-Check : goal.returns-in-Ok-Check
returns-in-Ok-Check g c =
    subst (λ (task : Result Task WordsFault). IsRead (still_task_course task)
    (reading_of g.K.Shelf c.args.shelf.now c.check.new.shelf) c.check.result)
    (ap (λ (x : Command). Ok (command_view x)) (sym c.in-Ok-Check.field-0-is)
    ∙ sym c.in-Ok-Check.ensures.value)
    c.check.ensures

pub returns-in-Ok-Intervals : goal.returns-in-Ok-Intervals
returns-in-Ok-Intervals g c =
    subst (λ (task : Result Task WordsFault). IsRead (still_task_course task)
    (reading_of g.K.Shelf c.args.shelf.now c.measured_report.new.shelf) c.measured_report.result)
    (ap (λ (x : Command). Ok (command_view x)) (sym c.in-Ok-Intervals.field-0-is)
    ∙ sym c.in-Ok-Intervals.ensures.value) c.measured_report.ensures

pub returns-in-Ok-Replay : goal.returns-in-Ok-Replay
returns-in-Ok-Replay g c =
    subst (λ (task : Result Task WordsFault). IsRead (still_task_course task)
    (reading_of g.K.Shelf c.args.shelf.now c.schedule_replay.new.shelf) c.schedule_replay.result)
    (ap (λ (x : Command). Ok (command_view x)) (sym c.in-Ok-Replay.field-0-is)
    ∙ sym c.in-Ok-Replay.ensures.value) c.schedule_replay.ensures

pub returns-in-Ok-Emit : goal.returns-in-Ok-Emit
returns-in-Ok-Emit g c =
    let e = c.in-Ok-Emit in
    let r : Reading = reading_of g.K.Shelf c.args.shelf.now c.args.shelf.now in
    subst (λ (task : Result Task WordsFault). IsRead (still_task_course task) r c.emitted_text.result)
    (ap (λ (x : Command). Ok (command_view x)) (sym e.field-0-is) ∙ sym e.ensures.value)
    (judged_text (Ok (emitted_text e.part e.seed)) c.emitted_text.result r c.emitted_text.ensures.value
    c.emitted_text.ensures.refuses (quiet g.K.Shelf c.args.shelf.now))

-- it is one of the other call
pub returns-in-Ok-Analyse : goal.returns-in-Ok-Analyse
returns-in-Ok-Analyse g c =
    let r : Reading = reading_of g.K.Shelf c.args.shelf.now c.args.shelf.now in
    subst (λ (task : Result Task WordsFault). IsRead (still_task_course task) r (Err status.Usage))
    (ap (λ (x : Command). Ok (command_view x)) (sym c.in-Ok-Analyse.field-0-is)
    ∙ sym c.in-Ok-Analyse.ensures.value)
    (refused status.Usage r tt (quiet g.K.Shelf c.args.shelf.now))

pub returns-in-Ok-Generate : goal.returns-in-Ok-Generate
returns-in-Ok-Generate g c =
    let r : Reading = reading_of g.K.Shelf c.args.shelf.now c.args.shelf.now in
    subst (λ (task : Result Task WordsFault). IsRead (still_task_course task) r (Err status.Usage))
    (ap (λ (x : Command). Ok (command_view x)) (sym c.in-Ok-Generate.field-0-is)
    ∙ sym c.in-Ok-Generate.ensures.value)
    (refused status.Usage r tt (quiet g.K.Shelf c.args.shelf.now))

-- there is no memory for what they say
pub returns : goal.returns
returns g c = out_of_memory (still_course c.args.words.now) _ (quiet g.K.Shelf c.args.shelf.now)
