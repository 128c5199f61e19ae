use Rattle.std.proofs.Common.{◌≡◌, ◌++◌, ◌∷◌, [], FitsSigned, w64, ap, ◌∙◌}
use Rattle.std.proofs.lemmas.Int.{to_z-of_z}
use Rattle.pq_time.specs.Printed.{printed_moment, date_shown, date_view, since_midnight, time_at, time_text, ymd_text}
use Rattle.pq_time.proofs.printed.print_moment.Goals as goal

-- a date, a `T`, a time of day and a `Z`
pub returns : goal.returns
unfolding printed_moment
returns c =
    let t = c.args.t in
    let fits : FitsSigned w64 t = c.ranges.t in
    let date : date_view c.date_on.result ≡ date_shown t = simp to_z-of_z at c.date_on.ensures in
    let since : c.within_day.result ≡ since_midnight t = simp to_z-of_z at c.within_day.ensures in
    c.joined.ensures
    ∙ ap (λ a. a ++ 84 ∷ c.time_text.result ++ 90 ∷ []) (c.date_text.ensures ∙ ap ymd_text date)
    ∙ ap (λ b. ymd_text (date_shown t) ++ 84 ∷ b ++ 90 ∷ [])
    (c.time_text.ensures ∙ ap (λ n. time_text (time_at n)) since)
