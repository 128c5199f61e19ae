use Rattle.std.proofs.Common.{arith}
use Rattle.pq_base.proofs.RoundLemmas.{large_product}
use Rattle.pq_base.proofs.decimal.multiplied.Goals as goal

pub returns-then-power-gt-MOST_POWER : goal.returns-then-power-gt-MOST_POWER
returns-then-power-gt-MOST_POWER c = large_product c.args.digits c.args.power (omega arith)
    c.if-power-gt-MOST_POWER.true
