use Rattle.std.proofs.Common.{◌*◌, ◌^◌, ◌≤◌, ℤ, pos, neg_ℤ, ◌+ℤ◌, ◌-ℤ◌, ◌*ℤ◌, ◌≡◌, FitsSigned, w64, ◌≤ℤ◌, ap, ◌∙◌, sym, subst, arith}
use Rattle.std.proofs.lemmas.Int.{to_z-of_z}
use Rattle.pq_time.specs.Tick.{at_least_zero}
use Rattle.pq_words.specs.Steps.{steps_from}
use Rattle.pq_time.proofs.TickLaws.{ends_within, seconds_are, seconds_fit}
use Rattle.pq_time.proofs.ticks.between.Goals as goal

-- at most 10^9 periods of at most 7200 seconds
pub overflow_mul-result : goal.overflow_mul-result
overflow_mul-result c = seconds_fit c.args.first c.args.period (omega arith) c.requires.first

-- the last tick is as near
pub invariant_of-result : goal.invariant_of-result
invariant_of-result c =
    let short : c.args.period ≤ 7200 = omega arith in
    let ends = ends_within c.args.first c.args.last c.args.period short c.requires.first c.requires.last in
    let is = seconds_are c.args.first c.args.period short c.requires.first in
    let first_fits : FitsSigned w64 c.args.first = c.ranges.first in
    let last_fits : FitsSigned w64 c.args.last = c.ranges.last in
    let count : c.count.result ≡ at_least_zero ((c.args.last -ℤ c.args.first) +ℤ pos 1) =
    simp to_z-of_z at c.count.ensures in
    let low : ℤ → Type 0 = λ z. neg_ℤ (pos (10 ^ 14)) ≤ℤ z in
    let high : ℤ → Type 0 = λ z. (z +ℤ pos (c.count.result * c.args.period)) ≤ℤ pos (10 ^ 14) in
    (short, subst low (sym is) ends.0, subst high (sym is) (rw count ends.1))

-- they are in steps of the period
pub returns : goal.returns
returns c =
    let first_fits : FitsSigned w64 c.args.first = c.ranges.first in
    let last_fits : FitsSigned w64 c.args.last = c.ranges.last in
    let count : c.count.result ≡ at_least_zero ((c.args.last -ℤ c.args.first) +ℤ pos 1) =
    simp to_z-of_z at c.count.ensures in
    ap (λ z. steps_from z c.args.period c.count.result)
    (seconds_are c.args.first c.args.period (omega arith) c.requires.first)
    ∙ ap (steps_from (c.args.first *ℤ pos c.args.period) c.args.period) count
