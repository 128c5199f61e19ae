-- Of two ticks the later one's moment is no earlier.
use Rattle.std.proofs.Common.{ℕ, ℤ, pos, ◌+ℤ◌, ◌≤ℤ◌, arith}
use Rattle.std.proofs.lemmas.Int.{ints}
use Rattle.pq_time.specs.Tick.{moment_of}

pub second_later : (second : ℤ) (step : ℕ) → moment_of second ≤ℤ moment_of (second +ℤ pos step)
second_later second step = omega (arith, ints)
