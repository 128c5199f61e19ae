use Rattle.pq_report.proofs.ReadsBackLemmas as lemmas
use Rattle.pq_report.proofs.laws.reads_back.Goals as goal

pub returns : goal.returns
returns c = lemmas.reads_back
