use Rattle.comtrade_dat.proofs.ReadBackLemmas.{fields_made, fields_read, record_placed}
use Rattle.comtrade_dat.proofs.laws.records_read_back.Goals as goal

pub returns : goal.returns
returns c = record { read = fields_read; made = fields_made; placed = record_placed }
