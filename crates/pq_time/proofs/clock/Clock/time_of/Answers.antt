use Rattle.std.proofs.Common.{◌≡◌, ◌*◌, ◌/◌, ◌^◌, ap, ◌∙◌, arith}
use Rattle.std.proofs.lemmas.Int.{ints}
use Rattle.pq_time.specs.Time.{time_of}
use Rattle.pq_time.proofs.PlaceLaws.{passed_small}
use Rattle.pq_time.proofs.clock.Clock.time_of.Goals as goal

-- what has passed is less than eighteen hours
pub returns : goal.returns
unfolding time_of
returns c =
    let clock = c.args.self.now in
    let small = passed_small c.args.i clock.rate c.requires.place c.requires.clock.slowest in
    let same : c.from.result * 10 ^ 15 / c.from-2.result ≡ c.args.i * 10 ^ 15 / clock.rate =
    ap (λ n. n * 10 ^ 15 / c.from-2.result) c.from.ensures
    ∙ ap (λ n. c.args.i * 10 ^ 15 / n) c.from-2.ensures in
    omega (arith, ints, small, same)
