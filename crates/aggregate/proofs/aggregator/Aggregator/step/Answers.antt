-- Each machine is fed what the aggregator is fed.
use Rattle.std.proofs.Common.{subst, sym}
use Rattle.aggregate.specs.declared.group.Out.{Out}
use Rattle.aggregate.specs.Aggregator.{AggregatorView, Completes, MayFollow, SeesMore, aggregator_view}
use Rattle.aggregate.specs.BasicOrder.{basic_of}
use Rattle.aggregate.proofs.AggregatorLaws.{all_complete, all_see, tens_may_follow}
use Rattle.aggregate.proofs.aggregator.Aggregator.step.Goals as goal

pub step_if-two-requires : goal.step_if-two-requires
step_if-two-requires c =
    let i = c.self.inside in
    let b = basic_of c.args.front c.args.basic c.args.values.now c.args.flagged in
    let P : AggregatorView → Type 0 = λ a. MayFollow a b in
    tens_may_follow i.shorts i.tens i.two_hours b c.step-ten.result c.self.invariant c.step-ten.ensures.value
    (subst P (sym c.self.view_is) c.requires)

pub returns-clause-value : goal.returns-clause-value
returns-clause-value c =
    let i = c.self.inside in
    let b = basic_of c.args.front c.args.basic c.args.values.now c.args.flagged in
    let out : Out = record {
      short = c.step-short.result;
      ten = c.step-ten.result;
      two = c.step_if-two.result;
    } in
    let P : AggregatorView → Type 0 = λ a. Completes a b out in
    subst P c.self.view_is
    (all_complete i.shorts i.tens i.two_hours b out c.self.invariant c.step-short.ensures.value
    c.step-ten.ensures.value c.step_if-two.ensures.value)

pub returns-clause-seen : goal.returns-clause-seen
returns-clause-seen c =
    let i = c.self.inside in
    let b = basic_of c.args.front c.args.basic c.args.values.now c.args.flagged in
    let now = aggregator_view c.step-short.new.self c.step-ten.new.self c.step_if-two.new.two_hours in
    let P : AggregatorView → Type 0 = λ a. SeesMore a now b in
    subst P c.self.view_is
    (all_see i.shorts c.step-short.new.self i.tens c.step-ten.new.self i.two_hours
    c.step_if-two.new.two_hours b
    c.step-ten.result c.self.invariant c.step-short.ensures.seen c.step-ten.ensures.value
    c.step-ten.ensures.seen
    c.step-ten.ensures.same c.step_if-two.ensures.seen)
