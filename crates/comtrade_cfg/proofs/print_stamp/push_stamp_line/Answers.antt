use Rattle.std.proofs.Common.{◌≡◌, ◌++◌, ◌∷◌, [], append_assoc, ap, ◌∙◌, FitsSigned, w32, w64, arith}
use Rattle.std.proofs.lemmas.Int.{ints, to_z-of_z}
use Rattle.pq_time.specs.Moment.{written_of}
use Rattle.comtrade_cfg.specs.Canonical.{stamp_text}
use Rattle.comtrade_cfg.proofs.print_stamp.push_stamp_line.Goals as goal

-- the stamp, and the line end
pub returns : goal.returns
returns c =
    let utc : FitsSigned w64 c.args.utc = c.ranges.utc in
    let minutes : FitsSigned w32 c.args.minutes = c.ranges.minutes in
    let written : c.written_of.result ≡ written_of c.args.utc c.args.minutes =
    simp to_z-of_z at c.written_of.ensures in
    let fits : FitsSigned w64 (written_of c.args.utc c.args.minutes) = omega (arith, ints, c.requires) in
    let stamp : c.push_stamp.new.text.items ≡ c.args.text.now.items
    ++ stamp_text (written_of c.args.utc c.args.minutes) =
    simp (written, to_z-of_z) at c.in_ok-push_stamp.ensures in
    c.in_ok-extend_from_slice.ensures.items ∙ ap (λ z. z ++ 13 ∷ 10 ∷ []) stamp
    ∙ append_assoc c.args.text.now.items (stamp_text (written_of c.args.utc c.args.minutes))
    (13 ∷ 10 ∷ [])
