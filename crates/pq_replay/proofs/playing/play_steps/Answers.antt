use Rattle.std.proofs.Common.{◌∙◌, ◌+◌, drop, get_or, sym}
use Rattle.chain_core.specs.declared.step.Step.TheVariants as step
use Rattle.chain_core.specs.Play.{takes}
use Rattle.pq_replay.specs.AnswerLines.{answers_along}
use Rattle.pq_replay.proofs.PassingLaws.{none_at, splits_at}
use Rattle.pq_replay.proofs.PlayingLaws.{did_none, did_some, step_more, step_not_allowed, step_refused, steps_end}
use Rattle.pq_replay.proofs.playing.play_steps.Goals as goal

-- the first step that isn't allowed
pub returns-in-None : goal.returns-in-None
returns-in-None c =
    let m = c.args.measurement.now in
    let old = c.loop-step.machine in
    let steps = c.args.steps.now in
    let i = c.loop-step.step-index in
    let s = get_or steps i (step.Take 0) in
    step_not_allowed m old s (drop i steps) (drop (i + 1) steps) c.loop-step.answers.items
    (answers_along m c.args.machine.now steps) (splits_at steps i (step.Take 0) c.loop-step-test.true)
    (did_none (takes m old s) c.in_ok-step.field-0 c.step.new.self c.in_ok-step.ensures c.in-None.is)
    c.loop-step.invariant

-- the first that is answered Halted or Busy
pub returns-then-is_refusal : goal.returns-then-is_refusal
returns-then-is_refusal c =
    let m = c.args.measurement.now in
    let old = c.loop-step.machine in
    let steps = c.args.steps.now in
    let i = c.loop-step.step-index in
    let s = get_or steps i (step.Take 0) in
    let a = c.in-Some.answer in
    step_refused m old c.step.new.self s (drop i steps) (drop (i + 1) steps) c.loop-step.answers.items
    c.push.new.self.items a (answers_along m c.args.machine.now steps)
    (splits_at steps i (step.Take 0) c.loop-step-test.true)
    (did_some (takes m old s) c.in_ok-step.field-0 a c.step.new.self c.in_ok-step.ensures c.in-Some.is)
    (sym c.is_refusal.ensures ∙ c.if-is_refusal.true) c.in_ok-push-in-Some.ensures.items c.loop-step.invariant

-- a step more
pub loop-step-preserved : goal.loop-step-preserved
loop-step-preserved c =
    let m = c.args.measurement.now in
    let old = c.loop-step.machine in
    let steps = c.args.steps.now in
    let i = c.loop-step.step-index in
    let s = get_or steps i (step.Take 0) in
    let a = c.in-Some.answer in
    step_more m old c.step.new.self s (drop i steps) (drop (i + 1) steps) c.loop-step.answers.items
    c.push.new.self.items a (answers_along m c.args.machine.now steps)
    (splits_at steps i (step.Take 0) c.loop-step-test.true)
    (did_some (takes m old s) c.in_ok-step.field-0 a c.step.new.self c.in_ok-step.ensures c.in-Some.is)
    (sym c.is_refusal.ensures ∙ c.if-is_refusal.false) c.in_ok-push-in-Some.ensures.items
    c.loop-step.invariant

-- all steps are taken
pub returns : goal.returns
returns c =
    let m = c.args.measurement.now in
    let steps = c.args.steps.now in
    let i = c.loop-step.step-index in
    steps_end m c.loop-step.machine (drop i steps) c.loop-step.answers.items
    (answers_along m c.args.machine.now steps) (none_at steps i c.loop-step-test.false) c.loop-step.invariant
