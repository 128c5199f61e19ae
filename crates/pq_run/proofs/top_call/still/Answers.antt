use Rattle.std.proofs.Common.{subst}
use Rattle.pq_course.proofs.PartLemmas.{written}
use Rattle.pq_course.specs.Parts.{IsWritten}
use Rattle.pq_course.specs.TopCall.{Writing, reading_of, writing_of}
use Rattle.pq_run.specs.Commands.{still_course}
use Rattle.pq_words.specs.Text.{Text}
use Rattle.pq_run.proofs.top_call.still.Goals as goal

-- the text of the job is handed over
pub returns-in-Ok : goal.returns-in-Ok
returns-in-Ok g c =
    let w : Writing = writing_of g.O.Sink c.args.out.now c.write_text.new.out in
    let text : Text = c.in-Ok.text in
    written (still_course c.args.words.now) (reading_of g.K.Shelf c.args.shelf.now c.still_text.new.shelf) w
    text c.write_text.result c.in-Ok.ensures
    (subst (λ (t : Text). IsWritten t w c.write_text.result) c.bytes.ensures c.write_text.ensures)
