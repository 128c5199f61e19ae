-- The law is a lemma.
use Rattle.locality_law.proofs.PostedLaws.{posts_settle}
use Rattle.locality_law.proofs.laws.posted_items_settle.Goals as goal

pub returns : goal.returns
returns c = posts_settle
