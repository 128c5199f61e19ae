use Rattle.std.proofs.Common.{◌≡◌, Ok, refl, subst}
use Rattle.lane_reports.specs.PrintedReport.{IsPrinted}
use Rattle.pq_course.specs.Parts.{IsWritten}
use Rattle.pq_course.specs.TopCall.{Writing, writing_of}
use Rattle.pq_run.proofs.PrintingLemmas.{handed_over, unmade}
use Rattle.pq_run.specs.Generating.{generated_summary}
use Rattle.pq_words.specs.Text.{Text}
use Rattle.pq_run.proofs.generating.print_summary.Goals as goal

-- the summary is handed over
pub returns-in-Ok : goal.returns-in-Ok
returns-in-Ok g c =
    let w : Writing = writing_of g.O.Sink c.args.out.now c.write_text.new.out in
    let text : Text = c.in-Ok.text in
    let same : Ok (generated_summary c.args.seed) ≡ Ok text = c.in-Ok.ensures.value in
    let is : text ≡ generated_summary c.args.seed = cc in
    subst (λ (t : Text). IsPrinted t w c.write_text.result) is
    (handed_over text w c.write_text.result
    (subst (λ (t : Text). IsWritten t w c.write_text.result) c.bytes.ensures c.write_text.ensures))

-- nothing is written
pub returns-in-Err : goal.returns-in-Err
returns-in-Err g c = unmade (generated_summary c.args.seed)
    (writing_of g.O.Sink c.args.out.now c.args.out.now) c.in-Err.status c.in-Err.ensures.value
    (record { taken = refl; faults = refl })
