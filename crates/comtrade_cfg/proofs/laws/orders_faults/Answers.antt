use Rattle.comtrade_cfg.proofs.FaultOrderLaws as FaultOrderLaws
use Rattle.comtrade_cfg.proofs.laws.orders_faults.Goals as goal

pub returns : goal.returns
returns c = FaultOrderLaws.orders_faults
