use Rattle.comtrade_dat.proofs.FaultLemmas.{none_for_memory}
use Rattle.comtrade_dat.proofs.laws.none_for_memory.Goals as goal

pub returns : goal.returns
returns c = none_for_memory
