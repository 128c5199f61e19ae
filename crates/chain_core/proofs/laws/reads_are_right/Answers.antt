use Rattle.chain_core.proofs.ReadLaws as laws
use Rattle.chain_core.proofs.laws.reads_are_right.Goals as goal

pub returns : goal.returns
returns c = laws.reads_are_right
