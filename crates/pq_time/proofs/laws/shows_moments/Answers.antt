use Rattle.pq_time.proofs.PrintedLemmas as lemmas
use Rattle.pq_time.proofs.laws.shows_moments.Goals as goal

pub returns : goal.returns
returns c = lemmas.shows_moments
