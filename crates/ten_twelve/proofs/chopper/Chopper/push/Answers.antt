use Rattle.std.proofs.Common.{◌≡◌, ◌≤◌, option_map, map, length, ap, sym, ◌∙◌, subst, arith}
use Rattle.ten_twelve.specs.Chopper.{ChopperView, Completes, SeesMore, element_of}
use Rattle.ten_twelve.specs.Unfinished.{pending_of, grown, next_pending, oldest_whole}
use Rattle.ten_twelve.proofs.ChopperLaws.{completes_one, sees_one, completes_of, sees_of, few_of, shown_span}
use Rattle.ten_twelve.proofs.PendingLaws.{completed}
use Rattle.ten_twelve.proofs.chopper.Chopper.push.Goals as goal

-- each element is a run of one
pub returns-then-self-eq1-clause-value : goal.returns-then-self-eq1-clause-value
returns-then-self-eq1-clause-value c =
    completes_one c.args.self.now (element_of c.args.front c.args.element)
    (sym (ap (λ (w : ChopperView). w.length) c.self.view_is) ∙ c.if-self-eq1.true)

pub returns-then-self-eq1-clause-seen : goal.returns-then-self-eq1-clause-seen
returns-then-self-eq1-clause-seen c =
    sees_one c.args.self.now (element_of c.args.front c.args.element)
    (sym (ap (λ (w : ChopperView). w.length) c.self.view_is) ∙ c.if-self-eq1.true)

-- a third run would lack elements
pub with_element-whole-requires-clause-few : goal.with_element-whole-requires-clause-few
with_element-whole-requires-clause-few c =
    let w = c.args.self.now in
    let is : c.self.inside.length ≡ w.length = ap (λ (w : ChopperView). w.length) c.self.view_is in
    let long : 2 ≤ w.length = omega arith in
    subst
    (λ (w : ChopperView). length (next_pending w.length w.pending c.args.front c.args.element.start) ≤ 2)
    (sym c.self.view_is) (few_of w (element_of c.args.front c.args.element) long c.requires)

-- the oldest run may be completed
pub returns-clause-value : goal.returns-clause-value
returns-clause-value c =
    let e = element_of c.args.front c.args.element in
    let was : ChopperView = record {
      length = c.self.inside.length;
      pending = pending_of c.self.inside.unfinished;
    } in
    let answer : c.spanned.result ≡ option_map (completed e) (oldest_whole was.length (map grown was.pending))
    =
    c.spanned.ensures ∙ shown_span c.with_element-whole.result.0 e
    ∙ ap (option_map (completed e)) c.with_element-whole.ensures.whole in
    subst (λ (w : ChopperView). Completes w e c.spanned.result) c.self.view_is
    (completes_of was e c.spanned.result (omega arith) answer)

-- and the others lack elements
pub returns-clause-seen : goal.returns-clause-seen
returns-clause-seen c =
    let e = element_of c.args.front c.args.element in
    let was : ChopperView = record {
      length = c.self.inside.length;
      pending = pending_of c.self.inside.unfinished;
    } in
    let is : ChopperView = record {
      length = c.self.inside.length;
      pending =
          pending_of c.with_element-whole.result.1;
    } in
    subst (λ (w : ChopperView). SeesMore w is e) c.self.view_is
    (sees_of was e (pending_of c.with_element-whole.result.1) (omega arith)
    c.with_element-whole.ensures.pending)
