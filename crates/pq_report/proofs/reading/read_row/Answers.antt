use Rattle.std.proofs.Common.{sym}
use Rattle.pq_report.proofs.CuttingLemmas.{no_item}
use Rattle.pq_report.proofs.reading.read_row.Goals as goal
use Rattle.pq_words.specs.Text.{parted_at}

-- not ten fields
pub returns-in-None : goal.returns-in-None
returns-in-None c = sym (no_item c.args.clock.now (parted_at 44 c.args.line.now) c.in-None.ensures.none)
