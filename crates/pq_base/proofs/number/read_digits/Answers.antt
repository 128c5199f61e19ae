use Rattle.std.proofs.Common.{arith, length}
use Rattle.pq_base.proofs.DigitsLemmas.{power_le, below_fewer}
use Rattle.pq_base.proofs.number.read_digits.Goals as goal

pub with_digits-requires : goal.with_digits-requires
with_digits-requires c = omega (arith, power_le (length c.args.text.now) 38 (omega arith))

-- at most `most` digits
pub returns-clause-within : goal.returns-clause-within
returns-clause-within c = below_fewer c.with_digits.result (length c.args.text.now) c.args.most (omega arith)
    c.with_digits.ensures.within
