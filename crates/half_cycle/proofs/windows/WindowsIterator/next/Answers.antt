use Rattle.std.proofs.Common.{◌≡◌, ◌-◌, ◌/◌, List, [], ◌∷◌, Some, length, sym, ap, subst, ◌∙◌, arith}
use Rattle.std.specs.Iterator.{YieldsFirst}
use Rattle.zero_cross.specs.declared.boundary.Boundary.{Boundary}
use Rattle.zero_cross.specs.Boundary.{places_of}
use Rattle.fixed_rms.specs.Root.{isqrt}
use Rattle.half_cycle.specs.HalfCycleWindow.{window_between}
use Rattle.half_cycle.specs.Windows.{windows_left}
use Rattle.half_cycle.proofs.SquareLaws.{squares_within, whole_sum, window_by_sum}
use Rattle.half_cycle.proofs.WindowLaws.{fewer_boundaries, no_window_at_two, one_window, three_boundaries, three_places}
use Rattle.half_cycle.proofs.windows.WindowsIterator.next.Goals as goal

-- two boundaries alone are left, and no window
pub returns-in_err-end-clause-steps : goal.returns-in_err-end-clause-steps
returns-in_err-end-clause-steps c =
    let it = c.self.inside in
    let s = it.samples.now in
    let two = c.in_ok-start.was in
    let none : (left : List Boundary) → left ≡ [] → windows_left s it.next_two left ≡ [] =
    λ left is. ap (windows_left s it.next_two) is ∙ ap (λ o. windows_left s o []) two
    ∙ no_window_at_two s c.in_ok-start.start c.in_ok-start.middle in
    let before : c.args.self.now ≡ [] = sym c.self.view_is
    ∙ none it.boundaries c.in_err-end.ensures.steps.0 in
    let after = none c.next.new.self c.in_err-end.ensures.steps.1 in
    subst (λ r. YieldsFirst (λ rest. rest) c.args.self.now r (windows_left s it.next_two c.next.new.self))
    (sym c.from_residual-in_err-end.ensures) (before, after)

-- the second half-cycle ends after its start
pub squares_between-second-requires-clause-some : goal.squares_between-second-requires-clause-some
squares_between-second-requires-clause-some c =
    let order = three_places c.in_ok-start.was c.in_ok-end.ensures.steps c.self.invariant in
    omega (arith, order.1)

-- and within the signal
pub squares_between-second-requires-clause-inside : goal.squares_between-second-requires-clause-inside
squares_between-second-requires-clause-inside c =
    let order = three_places c.in_ok-start.was c.in_ok-end.ensures.steps c.self.invariant in
    omega (arith, order.2)

-- the sum over the cycle fits
pub overflow_add-first : goal.overflow_add-first
overflow_add-first c =
    let it = c.self.inside in
    let order = three_places c.in_ok-start.was c.in_ok-end.ensures.steps c.self.invariant in
    let whole = whole_sum c.squares_between-second.result c.in_ok-start.was c.in_ok-end.ensures.steps
    c.self.invariant c.squares_between-second.ensures in
    let within = squares_within it.samples.now c.in_ok-start.start c.in_ok-end.field-0.place
    c.self.invariant.samples (omega (arith, order.2)) in
    omega (arith, order.2, whole, within, c.self.invariant.samples.short)

-- the window ends after its start
pub window-requires-clause-some : goal.window-requires-clause-some
window-requires-clause-some c =
    let order = three_places c.in_ok-start.was c.in_ok-end.ensures.steps c.self.invariant in
    omega (arith, order.0, order.1)

-- and its sum is not too large
pub window-requires-clause-within : goal.window-requires-clause-within
window-requires-clause-within c =
    let it = c.self.inside in
    let order = three_places c.in_ok-start.was c.in_ok-end.ensures.steps c.self.invariant in
    let whole = whole_sum c.squares_between-second.result c.in_ok-start.was c.in_ok-end.ensures.steps
    c.self.invariant c.squares_between-second.ensures in
    let within = squares_within it.samples.now c.in_ok-start.start c.in_ok-end.field-0.place
    c.self.invariant.samples (omega (arith, order.2)) in
    omega (arith, whole, within)

-- the second boundary and the third begin the next window, and the sum between them is kept
pub invariant_of-self-2 : goal.invariant_of-self-2
invariant_of-self-2 c = record {
  samples = c.self.invariant.samples;
  boundaries = fewer_boundaries _ _ _
      (three_boundaries c.in_ok-start.was c.in_ok-end.ensures.steps c.self.invariant);
  sum = c.squares_between-second.ensures;
}

-- the window that was begun is the first of those that were left, and so there is one less
pub returns : goal.returns
returns c =
    let it = c.self.inside in
    let s = it.samples.now in
    let a = c.in_ok-start.start in
    let b = c.in_ok-start.middle in
    let end = c.in_ok-end.field-0 in
    let order = three_places c.in_ok-start.was c.in_ok-end.ensures.steps c.self.invariant in
    let whole = whole_sum c.squares_between-second.result c.in_ok-start.was c.in_ok-end.ensures.steps
    c.self.invariant c.squares_between-second.ensures in
    let made : c.window.result ≡ window_between s a end.place = c.window.ensures
    ∙ ap (λ sum. record { start = a; end = end.place; value = isqrt (sum / (end.place - a)) }) whole
    ∙ window_by_sum s a end.place (omega (arith, order.2)) in
    let rest = windows_left s (Some (b, end.place)) c.next.new.self in
    let step : c.args.self.now ≡ c.window.result ∷ rest = sym c.self.view_is
    ∙ ap (λ o. windows_left s o it.boundaries) c.in_ok-start.was
    ∙ ap (windows_left s (Some (a, b))) c.in_ok-end.ensures.steps
    ∙ one_window s a b end.place (places_of c.next.new.self)
    ∙ ap (λ w. w ∷ rest) (sym made) in
    record {
      steps = step;
      goes = record {
        on = λ _. (tt, tt, omega (arith, ap length step));
        keeps = tt;
        rests = λ _. tt;
      };
    }
