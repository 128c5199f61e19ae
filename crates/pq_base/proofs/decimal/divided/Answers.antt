use Rattle.std.proofs.Common.{◌^◌, rules}
use Rattle.pq_base.proofs.RoundLemmas.{rounded_to_none, small_digits}
use Rattle.pq_base.proofs.decimal.divided.Goals as goal

-- less than half of so great a power
pub returns-then-power-gt-MOST_POWER : goal.returns-then-power-gt-MOST_POWER
returns-then-power-gt-MOST_POWER c = rounded_to_none c.args.digits (10 ^ c.args.power)
    (small_digits c.args.digits c.args.power (search rules) c.if-power-gt-MOST_POWER.true)
