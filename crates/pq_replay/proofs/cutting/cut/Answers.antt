use Rattle.std.proofs.Common.{sym}
use Rattle.pq_replay.proofs.cutting.cut.Goals as goal
use Rattle.pq_time.proofs.FieldLemmas.{parts_cut, one_part}

-- the place that was found
pub returns-in-Some-clause-value : goal.returns-in-Some-clause-value
returns-in-Some-clause-value c = parts_cut c.args.at c.args.text.now c.in-Some.index
    (sym c.in-Some.ensures.value)

-- no separator was found
pub returns-in-None-clause-none : goal.returns-in-None-clause-none
returns-in-None-clause-none c = one_part c.args.at c.args.text.now (sym c.in-None.ensures.value)
