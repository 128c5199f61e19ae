use Rattle.pq_time.proofs.FieldLemmas.{three_at_least}
use Rattle.pq_time.proofs.field.one_or_two_parts.Goals as goal

-- a second separator was found
pub returns-in-Some-cut-clause-none : goal.returns-in-Some-cut-clause-none
returns-in-Some-cut-clause-none c = three_at_least c.args.at _ _ _ _ _ c.in-Some.ensures.value
    c.in-Some-cut.ensures.value
