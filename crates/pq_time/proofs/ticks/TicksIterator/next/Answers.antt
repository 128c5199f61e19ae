use Rattle.std.proofs.Common.{◌≡◌, [], length, ◌+ℤ◌, to_z, of_z, w64, sym, ◌∙◌, ap, arith}
use Rattle.std.proofs.lemmas.Int.{ints}
use Rattle.pq_words.specs.Steps.{steps_from}
use Rattle.pq_time.proofs.TickLaws.{steps_next}
use Rattle.pq_time.proofs.ticks.TicksIterator.next.Goals as goal

-- none is left
pub returns-then-self-eq0-clause-steps : goal.returns-then-self-eq0-clause-steps
unfolding steps_from
returns-then-self-eq0-clause-steps c =
    let t = c.self.inside in
    let none : c.args.self.now ≡ [] = sym c.self.view_is
    ∙ ap (steps_from t.next t.period) c.if-self-eq0.true in
    (none, none)

-- the first is given, and the others are left
pub returns-clause-steps : goal.returns-clause-steps
returns-clause-steps c =
    let t = c.self.inside in
    let after = to_z w64 (of_z w64 (to_z w64 (of_z w64 t.next) +ℤ to_z w64 t.period)) in
    sym c.self.view_is ∙ steps_next t.next (to_z w64 (of_z w64 t.next)) after t.period t.left
    c.if-self-eq0.false (omega (arith, ints)) (omega (arith, ints))

-- one less is left
pub returns-clause-goes : goal.returns-clause-goes
returns-clause-goes c =
    let t = c.self.inside in
    let after = to_z w64 (of_z w64 (to_z w64 (of_z w64 t.next) +ℤ to_z w64 t.period)) in
    let step = sym c.self.view_is ∙ steps_next t.next (to_z w64 (of_z w64 t.next)) after t.period t.left
    c.if-self-eq0.false (omega (arith, ints)) (omega (arith, ints)) in
    record { on = λ finite. (tt, finite, omega (arith, ap length step)); keeps = tt; rests = λ _. tt }
