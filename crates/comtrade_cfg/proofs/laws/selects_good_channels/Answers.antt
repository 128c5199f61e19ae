use Rattle.comtrade_cfg.proofs.SelectionLaws as SelectionLaws
use Rattle.comtrade_cfg.proofs.laws.selects_good_channels.Goals as goal

pub returns : goal.returns
returns c = SelectionLaws.selection_good
