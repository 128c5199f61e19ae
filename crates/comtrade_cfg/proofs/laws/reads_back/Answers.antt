use Rattle.comtrade_cfg.proofs.ReadBack as ReadBack
use Rattle.comtrade_cfg.proofs.laws.reads_back.Goals as goal

pub returns : goal.returns
returns c = ReadBack.reads_back
