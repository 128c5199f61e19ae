use Rattle.std.proofs.Common.{◌≡◌, ◌∙◌, ap, arith, length, take, drop, Some}
use Rattle.std.proofs.lemmas.Int.{ints}
use Rattle.pq_report.specs.ShownSecond.{IsTime, seconds_in_day}
use Rattle.pq_report.proofs.TickLemmas.{day_part, length_text, second_by_parts, short_date, shown, text_is, time_part}
use Rattle.pq_report.proofs.values.shown_second.Goals as goal
use Rattle.pq_time.specs.Moment.{day_number}
use Rattle.pq_time.specs.Printed.{date_shown, time_shown}
use Rattle.pq_time.specs.Tick.{moment_of}

-- a moment has 30 bytes
pub returns-then-field-lt19-clause-value : goal.returns-then-field-lt19-clause-value
returns-then-field-lt19-clause-value c second range is =
    let long = ap length (is ∙ text_is second)
    ∙ length_text (date_shown (moment_of second)) (time_shown (moment_of second)) in
    absurd (omega (arith, long, c.if-field-lt19.true))

-- it shows a day
pub returns-in_err-day-clause-value : goal.returns-in_err-day-clause-value
returns-in_err-day-clause-value c second range is =
    let d = date_shown (moment_of second) in
    let t = time_shown (moment_of second) in
    let day = c.in_err-day.ensures.value d (short_date d (shown second range).date)
    (ap (take 10) (is ∙ text_is second) ∙ day_part d t) in
    absurd cc

-- and a time
pub returns-in_err-seconds-clause-value : goal.returns-in_err-seconds-clause-value
returns-in_err-seconds-clause-value c second range is =
    let d = date_shown (moment_of second) in
    let t = time_shown (moment_of second) in
    let h = shown second range in
    let time : IsTime t = record { hour = h.hour; minute = h.minute; second = h.second } in
    let seconds = c.in_err-seconds.ensures.value t time
    (ap (λ text. take 8 (drop 11 text)) (is ∙ text_is second) ∙ time_part d t) in
    absurd cc

pub returns-clause-value : goal.returns-clause-value
returns-clause-value c second range is =
    let d = date_shown (moment_of second) in
    let t = time_shown (moment_of second) in
    let h = shown second range in
    let time : IsTime t = record { hour = h.hour; minute = h.minute; second = h.second } in
    let one : Some c.in_ok-day.day ≡ Some (day_number d) = c.in_ok-day.ensures.value d (short_date d h.date)
    (ap (take 10) (is ∙ text_is second) ∙ day_part d t) in
    let two : Some c.in_ok-seconds.seconds ≡ Some (seconds_in_day t) = c.in_ok-seconds.ensures.value t time
    (ap (λ text. take 8 (drop 11 text)) (is ∙ text_is second) ∙ time_part d t) in
    let day : c.in_ok-day.day ≡ day_number d = cc in
    let seconds : c.in_ok-seconds.seconds ≡ seconds_in_day t = cc in
    let whole = second_by_parts second d t h in
    ap Some (omega (arith, ints, day, seconds, whole, range, c.in_ok-day.ensures.within))
