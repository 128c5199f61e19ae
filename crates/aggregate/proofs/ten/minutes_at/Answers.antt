use Rattle.std.proofs.Common.{◌≡◌, ◌+ℤ◌, ◌*ℤ◌, ◌≤ℤ◌, ◌<ℤ◌, ℕ, ℤ, pos, Option, Some, FitsSigned, to_z, of_z, w64, sym, ◌∙◌, ap, subst, arith}
use Rattle.std.proofs.lemmas.Int.{ints, to_z-of_z}
use Rattle.pq_time.specs.Tick.{last_period, moment_of, tick_place}
use Rattle.pq_time.specs.Time.{time_of}
use Rattle.aggregate.specs.declared.ten.TenMinutes.{TenMinutes}
use Rattle.aggregate.specs.TenSum.{minutes_at}
use Rattle.aggregate.proofs.MinuteLaws.{minutes_by, minutes_none_by, near_tick, time_small}
use Rattle.aggregate.proofs.ten.minutes_at.Goals as goal

-- a moment of the recording
pub last_tick-tick-requires : goal.last_tick-tick-requires
last_tick-tick-requires c =
    let small = time_small c.args.clock.now c.args.place c.requires.clock (omega arith) in
    (omega (arith, ints, small, c.time_of.ensures), omega (arith, ints, small, c.time_of.ensures))

pub overflow_mul-tick : goal.overflow_mul-tick
overflow_mul-tick c =
    let small = time_small c.args.clock.now c.args.place c.requires.clock (omega arith) in
    let fits : FitsSigned w64 c.time_of.result = omega (arith, ints, small, c.time_of.ensures) in
    let near = near_tick c.time_of.result c.last_tick-tick.result fits c.last_tick-tick.ensures.value in
    omega (arith, ints, small, c.time_of.ensures, near.1, near.2)

-- the tick lies before the first sample
pub returns-then-tick-clock : goal.returns-then-tick-clock
returns-then-tick-clock c =
    let clock = c.args.clock.now in
    let small = time_small clock c.args.place c.requires.clock (omega arith) in
    let fits : FitsSigned w64 c.time_of.result = omega (arith, ints, small, c.time_of.ensures) in
    let near = near_tick c.time_of.result c.last_tick-tick.result fits c.last_tick-tick.ensures.value in
    let before : moment_of c.last_tick-tick.result <ℤ clock.t0 =
    omega (arith, ints, small, c.time_of.ensures, near.1, near.2, c.if-tick-clock.true) in
    sym (minutes_none_by clock c.args.samples c.args.place c.last_tick-tick.result c.requires.place
    (subst (λ m. c.last_tick-tick.result ≡ (last_period m 600 *ℤ pos 600)) c.time_of.ensures near.0)
    (λ after until. absurd (omega (arith, ints, after, before))))

pub overflow_mul-next : goal.overflow_mul-next
overflow_mul-next c =
    let small = time_small c.args.clock.now c.args.place c.requires.clock (omega arith) in
    let fits : FitsSigned w64 c.time_of.result = omega (arith, ints, small, c.time_of.ensures) in
    let near = near_tick c.time_of.result c.last_tick-tick.result fits c.last_tick-tick.ensures.value in
    omega (arith, ints, small, c.time_of.ensures, near.1, near.2)

-- the next lies after the end
pub returns-then-time_of-next : goal.returns-then-time_of-next
returns-then-time_of-next c =
    let clock = c.args.clock.now in
    let small = time_small clock c.args.place c.requires.clock (omega arith) in
    let small_end = time_small clock c.args.samples c.requires.clock c.requires.samples in
    let fits : FitsSigned w64 c.time_of.result = omega (arith, ints, small, c.time_of.ensures) in
    let near = near_tick c.time_of.result c.last_tick-tick.result fits c.last_tick-tick.ensures.value in
    let past : time_of clock c.args.samples <ℤ moment_of (c.last_tick-tick.result +ℤ pos 600) =
    omega (
      arith,
      ints,
      small,
      small_end,
      c.time_of.ensures,
      c.time_of-2.ensures,
      near.1,
      near.2,
      c.if-time_of-next.true,
    ) in
    sym (minutes_none_by clock c.args.samples c.args.place c.last_tick-tick.result c.requires.place
    (subst (λ m. c.last_tick-tick.result ≡ (last_period m 600 *ℤ pos 600)) c.time_of.ensures near.0)
    (λ after until. absurd (omega (arith, ints, until, past))))

-- the next is a second of the recording
pub tick_place-requires-clause-after : goal.tick_place-requires-clause-after
tick_place-requires-clause-after c =
    let small = time_small c.args.clock.now c.args.place c.requires.clock (omega arith) in
    let fits : FitsSigned w64 c.time_of.result = omega (arith, ints, small, c.time_of.ensures) in
    let near = near_tick c.time_of.result c.last_tick-tick.result fits c.last_tick-tick.ensures.value in
    omega (arith, ints, small, c.time_of.ensures, near.1, near.2, c.if-tick-clock.false)

pub tick_place-requires-clause-before : goal.tick_place-requires-clause-before
tick_place-requires-clause-before c =
    let small = time_small c.args.clock.now c.args.place c.requires.clock (omega arith) in
    let small_end = time_small c.args.clock.now c.args.samples c.requires.clock c.requires.samples in
    let fits : FitsSigned w64 c.time_of.result = omega (arith, ints, small, c.time_of.ensures) in
    let near = near_tick c.time_of.result c.last_tick-tick.result fits c.last_tick-tick.ensures.value in
    omega (
      arith,
      ints,
      small,
      small_end,
      c.time_of.ensures,
      c.time_of-2.ensures,
      near.1,
      near.2,
      c.if-time_of-next.false,
    )

-- both ticks are there
pub returns : goal.returns
returns c =
    let clock = c.args.clock.now in
    let n = c.args.samples in
    let small = time_small clock c.args.place c.requires.clock (omega arith) in
    let small_end = time_small clock n c.requires.clock c.requires.samples in
    let fits : FitsSigned w64 c.time_of.result = omega (arith, ints, small, c.time_of.ensures) in
    let near = near_tick c.time_of.result c.last_tick-tick.result fits c.last_tick-tick.ensures.value in
    let tick = c.last_tick-tick.result in
    let tick_fits : FitsSigned w64 tick = omega (arith, ints, small, c.time_of.ensures, near.1, near.2) in
    let next_fits : FitsSigned w64 (tick +ℤ pos 600) = omega
    (arith, ints, small, c.time_of.ensures, near.1, near.2) in
    let tick_is : to_z w64 (of_z w64 tick) ≡ tick = to_z-of_z w64 tick tick_fits in
    let next_is : to_z w64 (of_z w64 (to_z w64 (of_z w64 tick) +ℤ pos 600)) ≡ (tick +ℤ pos 600) =
    omega (arith, ints, tick_fits, next_fits) in
    let after : clock.t0 ≤ℤ moment_of tick =
    omega (arith, ints, small, c.time_of.ensures, near.1, near.2, c.if-tick-clock.false) in
    let before : moment_of (tick +ℤ pos 600) ≤ℤ time_of clock n =
    omega (
      arith,
      ints,
      small,
      small_end,
      c.time_of.ensures,
      c.time_of-2.ensures,
      near.1,
      near.2,
      c.if-time_of-next.false,
    ) in
    let place : c.tick_place.result ≡ tick_place clock n (tick +ℤ pos 600) = c.tick_place.ensures
    ∙ ap (tick_place clock n) next_is in
    let told : minutes_at clock n c.args.place ≡ Some (record {
      tick = tick;
      next = tick_place clock n
          (tick +ℤ pos 600);
    }) =
    minutes_by clock n c.args.place tick c.requires.place
    (subst (λ m. tick ≡ (last_period m 600 *ℤ pos 600)) c.time_of.ensures near.0) after before in
    ap (minutes c.tick_place.result) tick_is ∙ ap (λ p. minutes p tick) place ∙ sym told
  where
    minutes : ℕ → ℤ → Option TenMinutes
    minutes next tick = Some (record { tick = tick; next = next })
