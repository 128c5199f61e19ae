use Rattle.std.proofs.Common.{◌&&◌, ◌+◌, ◌*◌, ◌<◌, length, ap, sym, ◌∙◌, arith, get_or, take}
use Rattle.std.proofs.lemmas.List.Folds.{list_all_more}
use Rattle.std.specs.Char.{is_ascii_digit}
use Rattle.std.specs.Str.Parse.{digits_value_after}
use Rattle.pq_base.proofs.DigitsLemmas.{digits_after_more, one_digit_more, room_of_fewer, value_of_digit}
use Rattle.pq_base.proofs.number.with_digits.Goals as goal

-- one digit more is within the room of all
pub overflow_mul-value : goal.overflow_mul-value
overflow_mul-value c =
    let i = c.loop-digit.digit-index in
    let most = c.args.front + 1 in
    omega (
      arith,
      one_digit_more c.loop-digit.value 0 most i c.loop-digit.invariant.below (omega arith),
      room_of_fewer most (i + 1) (length c.args.text.now) (omega arith),
      c.requires,
    )

pub overflow_add-value : goal.overflow_add-value
overflow_add-value c =
    let i = c.loop-digit.digit-index in
    let most = c.args.front + 1 in
    let digit : c.from.result < 10 = omega (
      arith,
      c.if-not-is_ascii_digit.ensures.cases.0,
      c.if-not-is_ascii_digit.ensures.cases.1,
    ) in
    omega (
      arith,
      one_digit_more c.loop-digit.value c.from.result most i c.loop-digit.invariant.below digit,
      room_of_fewer most (i + 1) (length c.args.text.now) (omega arith),
      c.requires,
    )

-- the value of one digit more
pub loop-digit-preserved : goal.loop-digit-preserved
loop-digit-preserved c =
    let i = c.loop-digit.digit-index in
    let text = c.args.text.now in
    let front = c.args.front in
    let from = c.if-not-is_ascii_digit.ensures.cases.0 in
    let to = c.if-not-is_ascii_digit.ensures.cases.1 in
    let digit : c.from.result < 10 = omega (arith, from, to) in
    record {
      number = ap (λ n. n * 10 + c.from.result) c.loop-digit.invariant.number
          ∙ (ap (λ d. digits_value_after 10 front (take i text) * 10 + d)
          (c.from.ensures ∙ sym (value_of_digit (get_or text i 0) from to))
          ∙ sym (digits_after_more front text i c.loop-digit-test.true));
      digits = list_all_more is_ascii_digit text i 0 c.loop-digit-test.true
          ∙ (ap (λ b. b && is_ascii_digit (get_or text i 0)) c.loop-digit.invariant.digits
          ∙ sym c.if-not-is_ascii_digit.ensures.value);
      below = one_digit_more c.loop-digit.value c.from.result (front + 1) i c.loop-digit.invariant.below
          digit;
    }
