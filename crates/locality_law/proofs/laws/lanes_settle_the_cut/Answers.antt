-- The law is a lemma.
use Rattle.locality_law.proofs.LocalityLaw.{locality}
use Rattle.locality_law.proofs.laws.lanes_settle_the_cut.Goals as goal

pub returns : goal.returns
returns c = locality
