use Rattle.cfg_fields.proofs.ReadBackNumbers.{lettered_back, number_back}
use Rattle.cfg_fields.proofs.laws.reads_numbers_back.Goals as goal

pub returns : goal.returns
returns c = record { alone = number_back; with_letter = lettered_back }
