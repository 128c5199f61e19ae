use Rattle.std.proofs.Common.{◌≢◌, subst}
use Rattle.comtrade_dat.proofs.GoodLemmas.{told_on}
use Rattle.comtrade_dat.specs.BinaryRecord.{count_in, record_at}
use Rattle.comtrade_dat.specs.declared.limits.TheConstants.{MISSING_COUNT}
use Rattle.pq_words.specs.Text.{Text}
use Rattle.comtrade_dat.proofs.good_records.have_counts.Goals as goal

-- one more record
pub loop-index-preserved : goal.loop-index-preserved
loop-index-preserved c =
    told_on (λ i. count_in (record_at c.args.size c.args.run.now i) c.args.position ≢ MISSING_COUNT)
    c.args.from c.loop-index.index c.loop-index.have c.has_count-have.result c.loop-index.invariant
    (λ told. subst (λ (bytes : Text). count_in bytes c.args.position ≢ MISSING_COUNT)
    c.record_at.ensures.value (c.has_count-have.ensures told))
