use Rattle.comtrade_dat.proofs.DatLemmas.{dats_read_back}
use Rattle.comtrade_dat.proofs.laws.dats_read_back.Goals as goal

pub returns : goal.returns
returns c = dats_read_back
