use Rattle.std.proofs.Common.{◌≡◌, ◌≤◌, length, sym, subst, ◌∙◌}
use Rattle.pq_words.specs.Text.{Text}
use Rattle.comtrade_cfg.specs.Configuration.{cfg_view}
use Rattle.comtrade_cfg.specs.CfgText.{IsCfgOf}
use Rattle.comtrade_cfg.specs.Canonical.{canonical_text}
use Rattle.comtrade_cfg.proofs.ReadBack.{reads_back}
use Rattle.comtrade_cfg.proofs.print.print_cfg.Goals as goal

-- the law of printing, at the text that was made
pub returns-in-Ok-clause-reads_back : goal.returns-in-Ok-clause-reads_back
returns-in-Ok-clause-reads_back c =
    let is : c.new.result ≡ canonical_text (cfg_view c.args.cfg.now) = c.new.ensures ∙ c.in-Ok.ensures in
    subst (λ (text : Text). length text ≤ 1_048_576 → IsCfgOf text (cfg_view c.args.cfg.now)) (sym is)
    (reads_back (cfg_view c.args.cfg.now) c.requires)
