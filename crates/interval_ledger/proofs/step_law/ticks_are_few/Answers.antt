-- The law is a lemma.
use Rattle.interval_ledger.proofs.TickLaws.{ticks_few}
use Rattle.interval_ledger.proofs.step_law.ticks_are_few.Goals as goal

pub returns : goal.returns
returns c = ticks_few
