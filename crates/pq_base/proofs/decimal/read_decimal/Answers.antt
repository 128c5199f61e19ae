use Rattle.std.proofs.Common.{ap, sym, ◌∙◌, rules, w32, FitsSigned}
use Rattle.std.specs.Prelude.{option_and_then}
use Rattle.std.proofs.lemmas.Int.{to_z-of_z}
use Rattle.pq_base.proofs.DecimalLemmas.{decimal_with, decimal_without}
use Rattle.pq_base.specs.Decimal.{mantissa_of}
use Rattle.pq_words.specs.Text.{parted_at}
use Rattle.pq_base.proofs.decimal.read_decimal.Goals as goal

-- what follows the exponent mark is no exponent
pub returns-in_err-exponent-in-Some : goal.returns-in_err-exponent-in-Some
returns-in_err-exponent-in-Some c =
    let cut = rw c.in-Some.is at c.cut_exponent.ensures in
    let sign = c.cut_sign-negative in
    let mantissa = c.cut_exponent.result.0.now in
    let none = sym c.read_exponent.ensures.value ∙ c.in_err-exponent-in-Some.was in
    c.from_residual.ensures
    ∙ sym (decimal_with c.args.text.now sign.result.1.now mantissa sign.result.0 sign.ensures.negative
    sign.ensures.unsigned c.in-Some.written.now cut
    ∙ ap (option_and_then (mantissa_of sign.result.0 (parted_at 46 mantissa))) none)

-- an exponent follows the mark
pub returns-in_ok-exponent-in-Some : goal.returns-in_ok-exponent-in-Some
returns-in_ok-exponent-in-Some c =
    let cut = rw c.in-Some.is at c.cut_exponent.ensures in
    let sign = c.cut_sign-negative in
    let mantissa = c.cut_exponent.result.0.now in
    let some = sym c.read_exponent.ensures.value ∙ c.in_ok-exponent-in-Some.was in
    let fits : FitsSigned w32 c.in_ok-exponent-in-Some.exponent = search rules in
    (simp to_z-of_z at c.read_mantissa.ensures)
    ∙ sym (decimal_with c.args.text.now sign.result.1.now mantissa sign.result.0 sign.ensures.negative
    sign.ensures.unsigned c.in-Some.written.now cut
    ∙ ap (option_and_then (mantissa_of sign.result.0 (parted_at 46 mantissa))) some)

-- no exponent mark
pub returns-in-None : goal.returns-in-None
returns-in-None c =
    let cut = rw c.in-None.is at c.cut_exponent.ensures in
    let sign = c.cut_sign-negative in
    c.read_mantissa-in-None.ensures ∙ sym (decimal_without c.args.text.now sign.result.1.now
    c.cut_exponent.result.0.now sign.result.0 sign.ensures.negative sign.ensures.unsigned cut)
