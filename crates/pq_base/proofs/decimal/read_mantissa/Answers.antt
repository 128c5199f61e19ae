use Rattle.std.proofs.Common.{ap, sym, ◌∙◌}
use Rattle.std.proofs.lemmas.Int.{to_z-of_z}
use Rattle.pq_base.proofs.DecimalLemmas.{with_fraction}
use Rattle.pq_base.specs.Decimal.{mantissa_of}
use Rattle.pq_base.proofs.decimal.read_mantissa.Goals as goal

-- a fraction follows the point
pub returns-in-Some : goal.returns-in-Some
returns-in-Some c =
    let fits = c.ranges.exponent in
    let cut = rw c.in-Some.is at c.cut_point.ensures in
    (simp to_z-of_z at c.read_parts.ensures)
    ∙ sym (ap (λ parts. mantissa_of c.args.negative parts c.args.exponent) cut
    ∙ with_fraction c.args.negative c.cut_point.result.0.now c.in-Some.fraction.now c.args.exponent)
