use Rattle.chain_core.proofs.SoundLaws as laws
use Rattle.chain_core.proofs.laws.cores_are_sound.Goals as goal

pub returns : goal.returns
returns c = laws.cores_are_sound
