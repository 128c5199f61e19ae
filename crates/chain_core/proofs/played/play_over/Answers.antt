use Rattle.std.proofs.Common.{◌≡◌, ◌+◌, ◌<◌, [], ◌∷◌, Some, None, drop, get_or, length, inr, add-one, drop-cons, ap, ◌∙◌, subst, arith}
use Rattle.std.proofs.lemmas.Grind.{common_steps}
use Rattle.chain_core.specs.declared.step.Step.TheVariants as step
use Rattle.chain_core.specs.Play.{Did, answers_from, answers_of, takes}
use Rattle.chain_core.proofs.PlayLaws.{before, ends_here, one_more, stops_here}
use Rattle.chain_core.proofs.played.play_over.Goals as goal

-- a step more, with its answer
pub loop-index-preserved : goal.loop-index-preserved
loop-index-preserved c =
    let m = c.args.measurement.now in
    let steps = c.args.steps.now in
    let index = c.loop-index.index in
    let old = c.loop-index.machine in
    let new = c.step.new.self in
    let s = get_or steps index (step.Take 0) in
    let rest = drop (index + 1) steps in
    let h : index < length steps = omega (arith, c.loop-index-test.true) in
    let splits : drop index steps ≡ s ∷ rest = rw (add-one, drop-cons steps index (step.Take 0)) in
    let is : takes m old s ≡ Some (c.in-Some.answer, new) =
    subst (λ a. Did (takes m old s) a new) c.in-Some.is c.in_ok-answer.ensures in
    ap (λ xs. before xs (answers_from m (index + 1) new rest)) c.in_ok-push-in-Some.ensures.items
    ∙ one_more m index old new s (drop index steps) rest c.in-Some.answer c.loop-index.answers.items
    (answers_of m steps) splits is c.loop-index.invariant

-- the first step that isn't allowed
pub returns-in-None : goal.returns-in-None
returns-in-None c =
    let m = c.args.measurement.now in
    let steps = c.args.steps.now in
    let index = c.loop-index.index in
    let old = c.loop-index.machine in
    let s = get_or steps index (step.Take 0) in
    let rest = drop (index + 1) steps in
    let h : index < length steps = omega (arith, c.loop-index-test.true) in
    let splits : drop index steps ≡ s ∷ rest = rw (add-one, drop-cons steps index (step.Take 0)) in
    let is : takes m old s ≡ None =
    subst (λ a. Did (takes m old s) a c.step.new.self) c.in-None.is c.in_ok-answer.ensures in
    inr (stops_here m index old s (drop index steps) rest c.loop-index.answers.items
    (answers_of m steps) splits is
    c.loop-index.invariant)

-- all steps are taken
pub returns : goal.returns
returns c =
    let m = c.args.measurement.now in
    let steps = c.args.steps.now in
    let index = c.loop-index.index in
    let none : drop index steps ≡ [] = grind (arith, common_steps) in
    ends_here m index c.loop-index.machine (drop index steps) c.loop-index.answers.items
    (answers_of m steps) none
    c.loop-index.invariant
