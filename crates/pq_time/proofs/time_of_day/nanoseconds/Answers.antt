use Rattle.std.proofs.Common.{◌<◌, ◌*◌, ◌^◌, length, arith}
use Rattle.pq_time.proofs.WrittenLemmas.{scaled_small}
use Rattle.pq_time.proofs.time_of_day.nanoseconds.Goals as goal

-- less than a second
pub overflow_mul-result : goal.overflow_mul-result
overflow_mul-result c =
    let small : c.in_ok-digits.digits * c.pow.result < 10 ^ 9 =
    scaled_small c.in_ok-digits.digits (length c.args.fraction.now) c.pow.result
    (omega (arith, c.in_ok-digits.ensures.digits)) c.in_ok-digits.ensures.within c.pow.ensures in
    omega arith

pub returns-clause-within : goal.returns-clause-within
returns-clause-within c = scaled_small c.in_ok-digits.digits (length c.args.fraction.now) c.pow.result
    (omega (arith, c.in_ok-digits.ensures.digits)) c.in_ok-digits.ensures.within c.pow.ensures
