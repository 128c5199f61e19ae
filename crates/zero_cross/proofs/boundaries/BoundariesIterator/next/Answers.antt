use Rattle.std.proofs.Common.{◌≡◌, ◌<◌, ◌∷◌, [], length, IfSome, ap, arith, subst, sym, ◌∙◌}
use Rattle.std.specs.Iterator.{YieldsFirst}
use Rattle.zero_cross.specs.Boundaries.{boundaries_from}
use Rattle.zero_cross.proofs.BoundaryLaws.{boundaries_from_none, boundaries_from_step}
use Rattle.zero_cross.proofs.boundaries.BoundariesIterator.next.Goals as goal

-- no boundary comes next, so none was left
pub returns-in_err-boundary-clause-steps : goal.returns-in_err-boundary-clause-steps
returns-in_err-boundary-clause-steps c =
    let it = c.self.inside in
    let none : c.args.self.now ≡ [] = sym c.self.view_is
    ∙ ap (boundaries_from it.samples.now it.rule) c.in_err-boundary.was
    ∙ boundaries_from_none it.samples.now it.rule in
    subst (λ r. YieldsFirst (λ rest. rest) c.args.self.now r c.args.self.now) (sym c.from_residual.ensures)
    (none, none)

-- the one that comes next is the first of those that were left, and so there is one less
pub returns : goal.returns
returns c =
    let it = c.self.inside in
    let s = it.samples.now in
    let b = c.in_ok-boundary.boundary in
    let inside : b.place < length s =
    subst (λ o. IfSome o (λ b. b.place < length s)) c.in_ok-boundary.was c.self.invariant.inside in
    let rest = boundaries_from s it.rule c.after-self-inside.result in
    let step : c.args.self.now ≡ b ∷ rest = sym c.self.view_is
    ∙ ap (boundaries_from s it.rule) c.in_ok-boundary.was
    ∙ boundaries_from_step s it.rule b c.self.invariant.is_rule inside
    ∙ ap (λ o. b ∷ boundaries_from s it.rule o) (sym c.after-self-inside.ensures.value) in
    record {
      steps = step;
      goes = record {
        on = λ _. (tt, tt, omega (arith, ap length step));
        keeps = tt;
        rests = λ _. tt;
      };
    }
