use Rattle.std.proofs.Common.{◌≡◌, ◌^◌, ap, unsigned_abs, FitsSigned, w64, arith}
use Rattle.std.proofs.lemmas.Int.{ints, to_z-of_z}
use Rattle.pq_time.specs.Moment.{day_number}
use Rattle.pq_time.specs.Printed.{date_shown, day_of}
use Rattle.pq_words.specs.Magnitude.{IsWithin}
use Rattle.jiff_core.specs.Date.{epoch_day}
use Rattle.pq_time.proofs.DayLemmas.{same_date}
use Rattle.pq_time.proofs.PrintedLemmas.{date_is}
use Rattle.pq_time.proofs.printed.date_on.Goals as goal

-- the day number of what was made is that of the moment
pub returns : goal.returns
returns c =
    let t = c.args.t in
    let fits_t : FitsSigned w64 t = c.ranges.t in
    let within : IsWithin (2 ^ 63) t = omega (arith, ints) in
    let date = date_is t within in
    let day : c.div_euclid.result ≡ day_of t = simp to_z-of_z at c.div_euclid.ensures in
    let made = rw c.unwrap.ensures at c.from_unix_epoch_day.ensures.value in
    let same : epoch_day c.unwrap.result ≡ day_number (date_shown t) =
    omega (arith, ints, made, day, date.1) in
    let parts = same_date c.unwrap.result (date_shown t) date.0 same in
    λ i. record { year = ap unsigned_abs parts.0 i; month = parts.1 i; day = parts.2 i }
