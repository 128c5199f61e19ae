use Rattle.std.proofs.Common.{◌∙◌, sym, ap, refl, subst, Result, Ok}
use Rattle.command_words.specs.Commands.{Task, command_view}
use Rattle.command_words.specs.declared.command.Command.{Command}
use Rattle.command_words.specs.declared.command.WordsFault.{WordsFault}
use Rattle.pq_course.proofs.ReadingLemmas.{job, out_of_memory, quiet, refused}
use Rattle.pq_course.specs.TopCall.{Call, IsTopCall, Reading, Writing, call_of, reading_of, writing_of}
use Rattle.pq_run.proofs.PrintingLemmas.{printed}
use Rattle.pq_run.specs.Commands.{analyse_course, analyse_task_course}
use Rattle.pq_run.specs.Generating.{generate_course, generated_summary}
use Rattle.status_text.specs.declared.status.Status.TheVariants as status
use Rattle.pq_run.proofs.top_call.analyse.Goals as goal

-- what the words say is this command, so its course is that of the words
pub returns-in-Ok-Analyse : goal.returns-in-Ok-Analyse
returns-in-Ok-Analyse g c =
    let call : Call = call_of g.K.Shelf g.O.Sink c.args.shelf.now c.print_report.new.shelf c.args.out.now
    c.print_report.new.out in
    subst (λ (task : Result Task WordsFault). IsTopCall (analyse_task_course task) call c.print_report.result)
    (ap (λ (x : Command). Ok (command_view x)) (sym c.in-Ok-Analyse.field-0-is)
    ∙ sym c.in-Ok-Analyse.ensures.value) c.print_report.ensures

pub returns-in-Ok-Generate : goal.returns-in-Ok-Generate
returns-in-Ok-Generate g c =
    let e = c.in-Ok-Generate in
    let r : Reading = reading_of g.K.Shelf c.args.shelf.now c.args.shelf.now in
    let w : Writing = writing_of g.O.Sink c.args.out.now c.print_summary.new.out in
    let s = c.print_summary.result in
    subst (λ (task : Result Task WordsFault). IsTopCall (analyse_task_course task)
    (record { reads = r; writes = w }) s)
    (ap (λ (x : Command). Ok (command_view x)) (sym e.field-0-is) ∙ sym e.ensures.value)
    (printed (generate_course e.seed) r w (generated_summary e.seed) s
    (job (generated_summary e.seed) r (quiet g.K.Shelf c.args.shelf.now)) c.print_summary.ensures)

-- it is one of the other call
pub returns-in-Ok-Check : goal.returns-in-Ok-Check
returns-in-Ok-Check g c =
    let r : Reading = reading_of g.K.Shelf c.args.shelf.now c.args.shelf.now in
    let w : Writing = writing_of g.O.Sink c.args.out.now c.args.out.now in
    subst (λ (task : Result Task WordsFault). IsTopCall (analyse_task_course task)
    (record { reads = r; writes = w }) status.Usage)
    (ap (λ (x : Command). Ok (command_view x)) (sym c.in-Ok-Check.field-0-is)
    ∙ sym c.in-Ok-Check.ensures.value)
    (refused status.Usage r tt (quiet g.K.Shelf c.args.shelf.now) w (record { taken = refl; faults = refl }))

pub returns-in-Ok-Intervals : goal.returns-in-Ok-Intervals
returns-in-Ok-Intervals g c =
    let r : Reading = reading_of g.K.Shelf c.args.shelf.now c.args.shelf.now in
    let w : Writing = writing_of g.O.Sink c.args.out.now c.args.out.now in
    subst (λ (task : Result Task WordsFault). IsTopCall (analyse_task_course task)
    (record { reads = r; writes = w }) status.Usage)
    (ap (λ (x : Command). Ok (command_view x)) (sym c.in-Ok-Intervals.field-0-is)
    ∙ sym c.in-Ok-Intervals.ensures.value)
    (refused status.Usage r tt (quiet g.K.Shelf c.args.shelf.now) w (record { taken = refl; faults = refl }))

pub returns-in-Ok-Emit : goal.returns-in-Ok-Emit
returns-in-Ok-Emit g c =
    let r : Reading = reading_of g.K.Shelf c.args.shelf.now c.args.shelf.now in
    let w : Writing = writing_of g.O.Sink c.args.out.now c.args.out.now in
    subst (λ (task : Result Task WordsFault). IsTopCall (analyse_task_course task)
    (record { reads = r; writes = w }) status.Usage)
    (ap (λ (x : Command). Ok (command_view x)) (sym c.in-Ok-Emit.field-0-is)
    ∙ sym c.in-Ok-Emit.ensures.value)
    (refused status.Usage r tt (quiet g.K.Shelf c.args.shelf.now) w (record { taken = refl; faults = refl }))

pub returns-in-Ok-Replay : goal.returns-in-Ok-Replay
returns-in-Ok-Replay g c =
    let r : Reading = reading_of g.K.Shelf c.args.shelf.now c.args.shelf.now in
    let w : Writing = writing_of g.O.Sink c.args.out.now c.args.out.now in
    subst (λ (task : Result Task WordsFault). IsTopCall (analyse_task_course task)
    (record { reads = r; writes = w }) status.Usage)
    (ap (λ (x : Command). Ok (command_view x)) (sym c.in-Ok-Replay.field-0-is)
    ∙ sym c.in-Ok-Replay.ensures.value)
    (refused status.Usage r tt (quiet g.K.Shelf c.args.shelf.now) w (record { taken = refl; faults = refl }))

-- there is no memory for what they say
pub returns : goal.returns
returns g c = out_of_memory (analyse_course c.args.words.now) _ (quiet g.K.Shelf c.args.shelf.now)
    (writing_of g.O.Sink c.args.out.now c.args.out.now) (record { taken = refl; faults = refl })
