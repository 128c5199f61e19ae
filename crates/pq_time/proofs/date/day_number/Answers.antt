use Rattle.std.proofs.Common.{◌≡◌, ap, arith}
use Rattle.std.proofs.lemmas.Int.{ints}
use Rattle.jiff_core.specs.Date.{epoch_day}
use Rattle.pq_time.proofs.DayLemmas.{written_day}
use Rattle.pq_time.proofs.date.day_number.Goals as goal

-- the year was tested
pub returns-in-Ok-clause-within : goal.returns-in-Ok-clause-within
returns-in-Ok-clause-within c =
    let range = written_day c.in-Ok.date (omega (arith, ints, c.in-Ok.ensures.value))
    (omega (arith, ints, c.in-Ok.ensures.value)) in
    let same : epoch_day c.to_plain.result ≡ epoch_day c.in-Ok.date = ap epoch_day c.to_plain.ensures in
    omega (arith, ints, range)
