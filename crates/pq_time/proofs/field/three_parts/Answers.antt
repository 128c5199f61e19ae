use Rattle.pq_time.proofs.FieldLemmas.{more_than_three}
use Rattle.pq_time.proofs.field.three_parts.Goals as goal

-- a third separator was found
pub returns-in-Some-clause-none : goal.returns-in-Some-clause-none
returns-in-Some-clause-none c = more_than_three c.args.at _ _ _ _ _ _ _ c.in_ok-first.ensures.value
    c.in_ok-second.ensures.value c.in-Some.ensures.value
