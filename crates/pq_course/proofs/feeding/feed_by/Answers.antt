use Rattle.std.proofs.Common.{ap, sym, subst, Err}
use Rattle.pq_base.specs.Outside.{IsOver}
use Rattle.pq_course.proofs.FileLemmas.{cannot_have}
use Rattle.pq_course.specs.InputFile.{asks_for}
use Rattle.pq_course.specs.Parts.{IsRead}
use Rattle.pq_course.specs.TopCall.{Reading, reading_of}
use Rattle.pq_course.specs.declared.input_file.InputFile.TheVariants as file
use Rattle.pq_course.proofs.feeding.feed_by.Goals as goal

-- it can't be had
pub returns-in-Err-clause-value : goal.returns-in-Err-clause-value
returns-in-Err-clause-value g c = λ go.
    let e = c.in-Err.ensures in
    let name = c.args.name.now in
    let r : Reading = reading_of g.K.Shelf c.args.shelf.now c.feed_all.new.shelf in
    subst (λ s. IsRead (asks_for file.Dat name go) r (Err s)) (sym c.refusal.ensures)
    (cannot_have file.Dat name go r c.in-Err.why (record {
      names = e.asked;
      later = e.later;
      failed = λ is. e.failed (ap (λ w. Err w) is);
      missing = λ is. e.missing (ap (λ w. Err w) is);
      over = λ is. subst (IsOver r.files name) c.limit_of.ensures (e.over (ap (λ w. Err w) is));
    }) e.counted)
