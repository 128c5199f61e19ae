use Rattle.std.proofs.Common.{false, get_or, true}
use Rattle.chain_core.specs.declared.step.Step.TheVariants as step
use Rattle.pq_replay.specs.Schedule.{phases_after_steps, step_passed}
use Rattle.std.proofs.Common.{drop, ◌+◌}
use Rattle.pq_replay.proofs.PassingLaws.{ends, goes_on, none_at, refused, splits_at, stops, told, told_none}
use Rattle.pq_replay.proofs.passing.pass_steps.Goals as goal

-- the first step that isn't allowed
pub returns-in-None : goal.returns-in-None
returns-in-None c =
    let p = c.loop-step.phases in
    let steps = c.args.steps.now in
    let i = c.loop-step.step-index in
    let s = get_or steps i (step.Take 0) in
    refused p s (drop i steps) (drop (i + 1) steps) (phases_after_steps c.args.phases.now steps)
    (splits_at steps i (step.Take 0) c.loop-step-test.true)
    (told_none (step_passed p s) c.in_ok-pass_step.field-0 c.pass_step.new.phases c.in_ok-pass_step.ensures
    c.in-None.is) c.loop-step.invariant

-- the first that is answered Halted or Busy
pub returns-in-Some-true : goal.returns-in-Some-true
returns-in-Some-true c =
    let p = c.loop-step.phases in
    let steps = c.args.steps.now in
    let i = c.loop-step.step-index in
    let s = get_or steps i (step.Take 0) in
    stops p c.pass_step.new.phases s (drop i steps) (drop (i + 1) steps)
    (phases_after_steps c.args.phases.now steps) (splits_at steps i (step.Take 0) c.loop-step-test.true)
    (told (step_passed p s) c.in_ok-pass_step.field-0 c.in-Some-true.field-0 true c.pass_step.new.phases
    c.in_ok-pass_step.ensures c.in-Some-true.is c.in-Some-true.field-0-test) c.loop-step.invariant

-- a step more
pub loop-step-preserved : goal.loop-step-preserved
loop-step-preserved c =
    let p = c.loop-step.phases in
    let steps = c.args.steps.now in
    let i = c.loop-step.step-index in
    let s = get_or steps i (step.Take 0) in
    goes_on p c.pass_step.new.phases s (drop i steps) (drop (i + 1) steps)
    (phases_after_steps c.args.phases.now steps) (splits_at steps i (step.Take 0) c.loop-step-test.true)
    (told (step_passed p s) c.in_ok-pass_step.field-0 c.in-Some-false.field-0 false c.pass_step.new.phases
    c.in_ok-pass_step.ensures c.in-Some-false.is c.in-Some-false.field-0-test) c.loop-step.invariant

-- all steps are passed
pub returns : goal.returns
returns c =
    let steps = c.args.steps.now in
    let i = c.loop-step.step-index in
    ends c.loop-step.phases (drop i steps) (phases_after_steps c.args.phases.now steps)
    (none_at steps i c.loop-step-test.false) c.loop-step.invariant
