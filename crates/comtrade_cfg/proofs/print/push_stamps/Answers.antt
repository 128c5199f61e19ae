use Rattle.std.proofs.Common.{◌≡◌, ◌++◌, append_assoc, append-nil, ap, sym, ◌∙◌, FitsSigned, w32, w64, arith}
use Rattle.std.proofs.lemmas.Int.{ints, to_z-of_z}
use Rattle.pq_time.specs.Moment.{written_of}
use Rattle.comtrade_cfg.specs.CfgText.{offset_of}
use Rattle.comtrade_cfg.specs.Canonical.{stamp_text}
use Rattle.comtrade_cfg.specs.Canonical.{ended}
use Rattle.comtrade_cfg.proofs.print.push_stamps.Goals as goal

-- one line after another
pub returns : goal.returns
returns c =
    let cfg = c.args.cfg.now in
    let first_fits : FitsSigned w64 cfg.first = omega (arith, ints, c.requires) in
    let trigger_fits : FitsSigned w64 cfg.trigger = omega (arith, ints, c.requires) in
    let zone_fits : FitsSigned w32 (offset_of cfg.zone) = omega (arith, ints, c.requires) in
    let minutes : c.offset-minutes.result ≡ offset_of cfg.zone = c.offset-minutes.ensures in
    let first = ended (stamp_text (written_of cfg.first (offset_of cfg.zone))) in
    let trigger = ended (stamp_text (written_of cfg.trigger (offset_of cfg.zone))) in
    let a : c.push_stamp_line.new.text.items ≡ c.args.text.now.items ++ first =
    simp (minutes, to_z-of_z) at c.in_ok-push_stamp_line.ensures in
    let b : c.push_stamp_line-2.new.text.items ≡ c.push_stamp_line.new.text.items ++ trigger =
    simp (minutes, to_z-of_z) at c.in_ok-push_stamp_line-2.ensures in
    b ∙ ap (λ z. z ++ trigger) a ∙ append_assoc c.args.text.now.items first trigger
    ∙ ap (λ z. c.args.text.now.items ++ (first ++ z)) (sym (append-nil trigger))
