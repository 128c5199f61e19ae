use Rattle.pq_report.proofs.QuoteLemmas as lemmas
use Rattle.pq_report.proofs.laws.needs_no_quotes.Goals as goal

pub returns : goal.returns
returns c = lemmas.needs_no_quotes
