-- The law is a lemma.
use Rattle.query_session.proofs.ShownLaws.{shows}
use Rattle.query_session.proofs.law.shows_cores.Goals as goal

pub returns : goal.returns
returns c = shows
