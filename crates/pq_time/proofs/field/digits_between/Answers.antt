use Rattle.std.proofs.Common.{◌<◌, ◌^◌, sym, ◌∙◌, get_or, length, arith}
use Rattle.pq_time.proofs.FieldLemmas.{digit_of, read_more, read_fits}
use Rattle.pq_time.proofs.field.digits_between.Goals as goal

-- at most eight digits were read before this one
pub overflow_mul-value : goal.overflow_mul-value
overflow_mul-value c =
    let small : c.loop-byte.value < 10 ^ 8 = read_fits c.args.text.now c.loop-byte.byte-index 8
    c.loop-byte.value (omega arith) c.loop-byte.invariant in
    omega arith

pub overflow_add-value : goal.overflow_add-value
overflow_add-value c =
    let small : c.loop-byte.value < 10 ^ 8 = read_fits c.args.text.now c.loop-byte.byte-index 8
    c.loop-byte.value (omega arith) c.loop-byte.invariant in
    let digit = digit_of (get_or c.args.text.now c.loop-byte.byte-index 0) c.from.result
    (sym c.is_ascii_digit.ensures.value ∙ c.if-not-is_ascii_digit.false) c.from.ensures in
    omega (arith, digit.0)

-- one digit more
pub loop-byte-preserved : goal.loop-byte-preserved
loop-byte-preserved c =
    read_more c.args.text.now c.loop-byte.byte-index c.loop-byte.value c.from.result c.loop-byte-test.true
    (sym c.is_ascii_digit.ensures.value ∙ c.if-not-is_ascii_digit.false) c.from.ensures c.loop-byte.invariant

-- all digits were read
pub returns-clause-within : goal.returns-clause-within
returns-clause-within c = read_fits c.args.text.now c.loop-byte.byte-index (length c.args.text.now)
    c.loop-byte.value (omega arith) c.loop-byte.invariant
