use Rattle.std.proofs.Common.{◌≡◌, List, [], ◌∷◌, Some, length, ℤ, FitsSigned, of_z, to_z, w64, All, sym, ap, subst, ◌∙◌, arith, rules}
use Rattle.std.specs.Iterator.{YieldsFirst}
use Rattle.std.proofs.lemmas.Int.{to_z-of_z}
use Rattle.std.proofs.lemmas.List.Elements.{All-head}
use Rattle.freq10s.specs.Intervals.{interval_between, intervals_between, intervals_left}
use Rattle.pq_time.specs.Tick.{IsTick}
use Rattle.freq10s.proofs.IntervalLaws.{next_ticks, no_interval_at_one, one_interval}
use Rattle.freq10s.proofs.intervals.IntervalsIterator.next.Goals as goal

-- one tick alone is left, and no interval
pub returns-in_err-following-clause-steps : goal.returns-in_err-following-clause-steps
returns-in_err-following-clause-steps c =
    let it = c.self.inside in
    let none : (left : List ℤ) → left ≡ [] → intervals_left it.clock it.n it.begun left ≡ [] =
    λ left is. ap (intervals_left it.clock it.n it.begun) is
    ∙ ap (λ o. intervals_left it.clock it.n o []) c.in_ok-tick.was
    ∙ no_interval_at_one it.clock it.n c.in_ok-tick.tick in
    let before : c.args.self.now ≡ [] = sym c.self.view_is
    ∙ none it.ticks c.in_err-following.ensures.steps.0 in
    let after = none c.next.new.self c.in_err-following.ensures.steps.1 in
    subst (λ r. YieldsFirst (λ rest. rest) c.args.self.now r
    (intervals_left it.clock it.n it.begun c.next.new.self))
    (sym c.from_residual-in_err-following.ensures) (before, after)

-- the tick that follows is one of the clock
pub between-requires-clause-following : goal.between-requires-clause-following
between-requires-clause-following c =
    let it = c.self.inside in
    let following = c.in_ok-following.following in
    let fits : FitsSigned w64 following = search rules in
    let is : to_z w64 (of_z w64 following) ≡ following = to_z-of_z w64 following fits in
    subst (IsTick it.clock it.n 10) (sym is) (All-head (IsTick it.clock it.n 10) following c.next.new.self
    (next_ticks it.clock it.n it.begun c.in_ok-tick.tick following it.ticks c.next.new.self c.in_ok-tick.was
    c.in_ok-following.ensures.steps c.self.invariant.ticks))

-- and so are those after it
pub invariant_of-self-2 : goal.invariant_of-self-2
invariant_of-self-2 c =
    let it = c.self.inside in
    let following = c.in_ok-following.following in
    let fits : FitsSigned w64 following = search rules in
    let is : to_z w64 (of_z w64 following) ≡ following = to_z-of_z w64 following fits in
    record {
      is_clock = c.self.invariant.is_clock;
      places = c.self.invariant.places;
      ticks = subst (λ (tick : ℤ). All (IsTick it.clock it.n 10) (tick ∷ c.next.new.self)) (sym is)
          (next_ticks it.clock it.n it.begun c.in_ok-tick.tick following it.ticks c.next.new.self
          c.in_ok-tick.was c.in_ok-following.ensures.steps c.self.invariant.ticks);
    }

-- the interval between the two is the first of those that were left, and so there is one less
pub returns : goal.returns
returns c =
    let it = c.self.inside in
    let tick = c.in_ok-tick.tick in
    let following = c.in_ok-following.following in
    let tick_fits : FitsSigned w64 tick = search rules in
    let fits : FitsSigned w64 following = search rules in
    let is : to_z w64 (of_z w64 following) ≡ following = to_z-of_z w64 following fits in
    let given : c.between.result ≡ interval_between it.clock it.n tick following =
    simp to_z-of_z at c.between.ensures in
    let rest : ℤ → List _ = λ second. intervals_between it.clock it.n (second ∷ c.next.new.self) in
    let step : c.args.self.now ≡ c.between.result ∷ rest (to_z w64 (of_z w64 following)) =
    sym c.self.view_is
    ∙ ap (λ o. intervals_left it.clock it.n o it.ticks) c.in_ok-tick.was
    ∙ ap (intervals_left it.clock it.n (Some tick)) c.in_ok-following.ensures.steps
    ∙ one_interval it.clock it.n tick following c.next.new.self
    ∙ ap (λ i. i ∷ rest following) (sym given)
    ∙ ap (λ second. c.between.result ∷ rest second) (sym is) in
    record {
      steps = step;
      goes = record {
        on = λ _. (tt, tt, omega (arith, ap length step));
        keeps = tt;
        rests = λ _. tt;
      };
    }
