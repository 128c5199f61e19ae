use Rattle.std.proofs.Common.{arith}
use Rattle.pq_base.proofs.RoundLemmas.{rounded_up}
use Rattle.pq_base.proofs.rounding.rounded_quotient.Goals as goal

-- the rest is half of the unit or more
pub returns-else-rest-unit : goal.returns-else-rest-unit
returns-else-rest-unit c = rounded_up c.args.size c.args.unit c.requires (omega arith)
