use Rattle.pq_report.proofs.CuttingLemmas.{few_fields, many_fields}
use Rattle.pq_report.proofs.cutting.ten_fields.Goals as goal

-- fewer than ten
pub returns-in_err-tick-clause-none : goal.returns-in_err-tick-clause-none
returns-in_err-tick-clause-none c = rw c.from_residual-in_err-tick.ensures
    (few_fields _ _ _ _ _ _ _ _ _ c.in_ok-kind.ensures.value c.in_ok-end.ensures.value
    c.in_err-tick.ensures.none)

-- more than ten
pub returns-in-Some-clause-none : goal.returns-in-Some-clause-none
returns-in-Some-clause-none c = many_fields _ _ _ _ _ _ _ _ _ _ c.in-Some.field-0.1.now _ _ _ _
    c.in_ok-kind.ensures.value
    c.in_ok-end.ensures.value c.in_ok-tick.ensures.value c.in-Some.ensures.value
