use Rattle.std.proofs.Common.{◌≡◌, ◌∙◌, ap, arith, pos, Some, true, false, to_z, w16, w8}
use Rattle.std.proofs.lemmas.Int.{ints}
use Rattle.jiff_core.specs.Calendar.{days_from_civil}
use Rattle.pq_report.proofs.TickLemmas.{day_is, days_few, month_is, signed_date, year_is}
use Rattle.pq_report.proofs.values.shown_day.Goals as goal
use Rattle.pq_time.specs.Moment.{day_number}

pub returns-in-Ok-clause-value : goal.returns-in-Ok-clause-value
returns-in-Ok-clause-value c d h is =
    let year = year_is d c.args.field.now c.in_ok-year.year h is c.in_ok-year.ensures.value in
    let month = month_is d c.args.field.now c.in_ok-month.month h is c.in_ok-month.ensures.value in
    let day = day_is d c.args.field.now c.in_ok-day.day h is c.in_ok-day.ensures.value in
    let made = c.in-Ok.ensures.value in
    let y : c.in-Ok.date.year ≡ pos d.year = omega (arith, ints, made, year) in
    let m : c.in-Ok.date.month ≡ d.month = omega (arith, ints, made, month) in
    let k : c.in-Ok.date.day ≡ d.day = omega (
      arith,
      ints,
      made,
      day,
      h.date.2,
      days_few
          (pos d.year) d.month,
    ) in
    let same : c.to_unix_epoch_day.result ≡ day_number d =
    c.to_unix_epoch_day.ensures.value ∙ (λ i. days_from_civil (y i) (m i) (k i)) in
    ap Some (omega (arith, ints, c.from.ensures, same, c.to_unix_epoch_day.ensures.bound))

-- the calendar has the date
pub returns-in-Err-clause-value : goal.returns-in-Err-clause-value
returns-in-Err-clause-value c d h is =
    let year = year_is d c.args.field.now c.in_ok-year.year h is c.in_ok-year.ensures.value in
    let month = month_is d c.args.field.now c.in_ok-month.month h is c.in_ok-month.ensures.value in
    let day = day_is d c.args.field.now c.in_ok-day.day h is c.in_ok-day.ensures.value in
    let y : to_z w16 c.in_ok-year.year ≡ pos d.year = omega (arith, ints, year, h.year) in
    let m : to_z w8 c.in_ok-month.month ≡ pos d.month = omega (arith, ints, month, h.date.1) in
    let k : to_z w8 c.in_ok-day.day ≡ pos d.day =
    omega (arith, ints, day, h.date.2, days_few (pos d.year) d.month) in
    let bad : false ≡ true = c.in-Err.ensures.succeeds.1 (signed_date _ _ _ d h y m k) in
    absurd cc
