use Rattle.std.proofs.Common.{◌≡◌, ◌-ℤ◌, ◌≤ℤ◌, ◌<ℤ◌, unsigned_abs, ◌∙◌, arith, FitsSigned, w64}
use Rattle.std.proofs.lemmas.Int.{ints, to_z-of_z}
use Rattle.pq_time.proofs.PlaceLaws.{place_at_start, place_passed}
use Rattle.pq_time.proofs.clock.Clock.place_of.Goals as goal

-- no later than the first sample
pub returns-then-t-self-clause-value : goal.returns-then-t-self-clause-value
returns-then-t-self-clause-value c =
    let early : c.args.t ≤ℤ c.args.self.now.t0 = omega (arith, ints) in
    place_at_start c.args.self.now c.args.t c.args.n early

-- later than it
pub returns-clause-value : goal.returns-clause-value
returns-clause-value c =
    let clock = c.args.self.now in
    let later : clock.t0 <ℤ c.args.t = omega (arith, ints) in
    let fits_t : FitsSigned w64 c.args.t = c.ranges.t in
    let fits_t0 : FitsSigned w64 clock.t0 = omega (arith, ints) in
    let distance : c.abs_diff.result ≡ unsigned_abs (c.args.t -ℤ clock.t0) =
    simp to_z-of_z at c.abs_diff.ensures in
    let passed : c.from-passed.result ≡ unsigned_abs (c.args.t -ℤ clock.t0) = c.from-passed.ensures
    ∙ distance in
    let place = place_passed clock c.args.t c.args.n c.from-passed.result (omega arith) later passed in
    cc
