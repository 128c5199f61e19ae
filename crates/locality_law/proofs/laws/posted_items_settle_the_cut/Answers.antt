-- The law is a lemma.
use Rattle.locality_law.proofs.PostedLaws.{posted_cut}
use Rattle.locality_law.proofs.laws.posted_items_settle_the_cut.Goals as goal

pub returns : goal.returns
returns c = posted_cut
