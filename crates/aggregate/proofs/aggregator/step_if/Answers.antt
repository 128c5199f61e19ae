use Rattle.std.proofs.Common.{Option, subst, sym}
use Rattle.aggregate.specs.declared.group.Group.{Group}
use Rattle.aggregate.specs.Aggregator.{SeesMoreTens}
use Rattle.aggregate.proofs.aggregator.step_if.Goals as goal

-- one 10-minute interval more
pub returns-in-Some-clause-seen : goal.returns-in-Some-clause-seen
returns-in-Some-clause-seen c =
    let P : Option Group → Type 0 = λ ten. SeesMoreTens c.args.two_hours.now c.step.new.self ten in
    subst P (sym c.in-Some.is) c.step.ensures.seen
