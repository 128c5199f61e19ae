use Rattle.pq_report.proofs.QuoteLemmas.{plain_header}
use Rattle.pq_report.proofs.rows.header.Goals as goal

-- no name needs quotes
pub returns : goal.returns
returns c = rw (c.field_names.ensures, plain_header) at c.text_of.ensures
