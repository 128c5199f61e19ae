use Rattle.comtrade_cfg.proofs.ConfigurationBounds as ConfigurationBounds
use Rattle.comtrade_cfg.proofs.laws.bounds_configurations.Goals as goal

pub returns : goal.returns
returns c = ConfigurationBounds.configuration_bounded
