use Rattle.std.proofs.Common.{◌*ℤ◌, pos, w64, FitsSigned, arith}
use Rattle.std.proofs.lemmas.Int.{ints, to_z-of_z}
use Rattle.pq_time.specs.Time.{time_of}
use Rattle.pq_time.proofs.PlaceLaws.{passed_small}
use Rattle.pq_time.proofs.clock.Clock.tick_place.Goals as goal

-- a tick lies in the recording, whose moments are those of an i64
pub overflow_mul-second : goal.overflow_mul-second
unfolding time_of
overflow_mul-second c =
    let clock = c.args.self.now in
    omega (
      arith,
      ints,
      passed_small c.args.n clock.rate c.requires.places c.requires.clock.slowest,
      c.requires.after,
      c.requires.before,
    )

-- the place of its moment
pub returns : goal.returns
unfolding time_of
returns c =
    let clock = c.args.self.now in
    let second : FitsSigned w64 c.args.second = omega (arith, ints) in
    let moment : FitsSigned w64 (c.args.second *ℤ pos 1_000_000_000) =
    omega (
      arith,
      ints,
      passed_small c.args.n clock.rate c.requires.places c.requires.clock.slowest,
      c.requires.after,
      c.requires.before,
    ) in
    let is = simp to_z-of_z at c.place_of.ensures.value in
    is
