use Rattle.std.proofs.Common.{◌∙◌, arith, length}
use Rattle.pq_base.proofs.DigitsLemmas.{digits_of_both, power_le, room_of_both}
use Rattle.pq_base.proofs.decimal.joined_digits.Goals as goal

pub with_digits-requires : goal.with_digits-requires
with_digits-requires c = omega (arith, power_le (length c.args.whole.now) 38 (omega arith))

pub with_digits-requires-2 : goal.with_digits-requires-2
with_digits-requires-2 c = room_of_both c.in_ok-front.front (length c.args.whole.now)
    (length c.args.fraction.now) c.in_ok-front.ensures.within (omega arith)

pub returns-clause-value : goal.returns-clause-value
returns-clause-value c =
    c.with_digits-2.ensures.value ∙ digits_of_both c.args.whole.now c.args.fraction.now c.in_ok-front.front
    (omega arith) (omega arith) c.in_ok-front.ensures.value
