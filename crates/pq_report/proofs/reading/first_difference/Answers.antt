use Rattle.pq_report.proofs.NamesLemmas.{names_agree, names_differ}
use Rattle.pq_report.proofs.reading.first_difference.Goals as goal

pub returns-then-ne : goal.returns-then-ne
returns-then-ne c = names_differ c.args.names.now c.args.fields.now c.loop-index.index _ _ c.ne.result
    c.loop-index-test.true c.requires.both c.if-ne.true c.ne.ensures c.loop-index.invariant

pub loop-index-preserved : goal.loop-index-preserved
loop-index-preserved c = names_agree c.args.names.now c.args.fields.now c.loop-index.index _ _ c.ne.result
    c.loop-index-test.true c.requires.both c.if-ne.false c.ne.ensures c.loop-index.invariant
