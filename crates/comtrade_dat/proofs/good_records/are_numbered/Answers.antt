use Rattle.std.proofs.Common.{◌≡◌, ◌∙◌, ◌+◌, ℕ, true, ap, sym, refl, Some}
use Rattle.comtrade_dat.proofs.GoodLemmas.{told_on}
use Rattle.comtrade_dat.proofs.RunLemmas.{number_of_record}
use Rattle.comtrade_dat.specs.BinaryRecord.{number_in, record_at}
use Rattle.comtrade_dat.specs.Run.{is_numbered_after, number_before}
use Rattle.comtrade_dat.proofs.good_records.are_numbered.Goals as goal

-- one more record
pub loop-index-preserved : goal.loop-index-preserved
loop-index-preserved c =
    let size = c.args.size in
    let run = c.args.run.now in
    let index = c.loop-index.index in
    let before = number_before size c.args.before run in
    let number = c.number_in-number.result in
    let is : number ≡ number_in (record_at size run index) =
    c.number_in-number.ensures ∙ ap number_in c.record_at.ensures.value in
    record {
      last = ap (λ (n : ℕ). Some n) is ∙ sym (number_of_record size c.args.before run (index + 1) index refl);
      numbered = told_on (λ i. is_numbered_after (before i) (number_in (record_at size run i)) ≡ true)
          c.args.from index c.loop-index.are c.is_numbered_after-are.result c.loop-index.invariant.numbered
          (λ told. sym (c.is_numbered_after-are.ensures
          ∙ (ap (λ last. is_numbered_after last number) c.loop-index.invariant.last
          ∙ ap (is_numbered_after (before index)) is)) ∙ told);
    }
