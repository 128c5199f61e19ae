use Rattle.chain_core.proofs.GivenLaws as laws
use Rattle.chain_core.proofs.laws.sessions_are_given_the_result.Goals as goal

pub returns : goal.returns
returns c = laws.sessions_are_given
