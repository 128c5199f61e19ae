use Rattle.pq_course.proofs.ReadingLemmas.{out_of_memory, quiet}
use Rattle.pq_course.specs.InputFile.{asks_for}
use Rattle.pq_course.specs.TopCall.{reading_of}
use Rattle.pq_course.specs.declared.input_file.InputFile.TheVariants as file
use Rattle.pq_course.proofs.feeding.feed_dat.Goals as goal

-- there is no memory for a piece, and nothing was asked for
pub returns-in-Err-clause-value : goal.returns-in-Err-clause-value
returns-in-Err-clause-value g c = λ go.
    out_of_memory (asks_for file.Dat c.args.name.now go)
    (reading_of g.K.Shelf c.args.shelf.now c.args.shelf.now) (quiet g.K.Shelf c.args.shelf.now)
