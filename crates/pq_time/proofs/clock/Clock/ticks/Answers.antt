use Rattle.std.proofs.Common.{◌≡◌, length, pos, ◌+ℤ◌, ◌-ℤ◌, ◌*ℤ◌, ap, ◌∙◌, sym, subst, FitsSigned, w64, arith, rules}
use Rattle.std.proofs.lemmas.Int.{ints, to_z-of_z}
use Rattle.pq_time.specs.Tick.{HasTicks, at_least_zero, first_period, last_period, ticks}
use Rattle.pq_time.specs.Time.{time_of}
use Rattle.pq_words.specs.Steps.{steps_from}
use Rattle.pq_time.proofs.PlaceLaws.{passed_small}
use Rattle.pq_time.proofs.TickLaws.{few_ticks, ticks_exact}
use Rattle.pq_time.proofs.clock.Clock.ticks.Goals as goal
use Rattle.pq_time.proofs.clock.Clock.ticks.Goals.{After-between}

all_ticks : (c : After-between) → c.between.result ≡ ticks c.args.self.now c.args.n c.args.period
unfolding ticks
all_ticks c =
    let clock = c.args.self.now in
    let p = c.args.period in
    let t0_fits : FitsSigned w64 clock.t0 = omega (arith, ints) in
    let time_fits : FitsSigned w64 c.time_of.result = search rules in
    let first_fits : FitsSigned w64 c.first_period-first.result = search rules in
    let last_fits : FitsSigned w64 c.last_period-last.result = search rules in
    let first : c.first_period-first.result ≡ first_period clock.t0 p =
    simp to_z-of_z at c.first_period-first.ensures.value in
    let last : c.last_period-last.result ≡ last_period c.time_of.result p =
    simp to_z-of_z at c.last_period-last.ensures.value in
    let all = simp to_z-of_z at c.between.ensures in
    all
    ∙ ap (λ z. steps_from (z *ℤ pos p) p (at_least_zero ((c.last_period-last.result -ℤ z) +ℤ pos 1))) first
    ∙ ap (λ z. steps_from (first_period clock.t0 p *ℤ pos p) p
    (at_least_zero ((z -ℤ first_period clock.t0 p) +ℤ pos 1)))
    (last ∙ ap (λ t. last_period t p) c.time_of.ensures)

-- the end of a recording is a moment of an i64
pub last_period-last-requires-clause-moment : goal.last_period-last-requires-clause-moment
unfolding time_of
last_period-last-requires-clause-moment c =
    let clock = c.args.self.now in
    omega (
      arith,
      ints,
      passed_small c.args.n clock.rate c.requires.places c.requires.clock.slowest,
      c.time_of.ensures,
    )

-- from the first whole number of periods to the last
pub returns-clause-value : goal.returns-clause-value
unfolding ticks
returns-clause-value c = all_ticks c

-- so it has each tick
pub returns-clause-each : goal.returns-clause-each
returns-clause-each c = subst (HasTicks c.args.self.now c.args.n c.args.period) (sym (all_ticks c))
    (ticks_exact c.args.self.now c.args.n c.args.period (omega arith))

-- at most eighteen hours of them
pub returns-clause-within : goal.returns-clause-within
returns-clause-within c =
    let clock = c.args.self.now in
    omega (
      arith,
      ap length (all_ticks c),
      few_ticks clock c.args.n c.args.period (omega arith)
          c.requires.places c.requires.clock.slowest,
    )
