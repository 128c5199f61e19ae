use Rattle.std.proofs.Common.{◌≡◌, ℤ, pos, ◌+ℤ◌, ◌-ℤ◌, unsigned_abs, w64, FitsSigned, ap, ◌∙◌, arith, rules}
use Rattle.std.specs.Int.{int_max}
use Rattle.std.proofs.lemmas.Int.{ints, to_z-of_z}
use Rattle.pq_time.proofs.TickLaws.{max_zero}
use Rattle.pq_time.proofs.ticks.count.Goals as goal

-- none where the last is before the first
pub returns : goal.returns
returns c =
    let z : ℤ = (c.args.last -ℤ c.args.first) +ℤ pos 1 in
    let first_fits : FitsSigned w64 c.args.first = c.ranges.first in
    let last_fits : FitsSigned w64 c.args.last = c.ranges.last in
    let between_fits : FitsSigned w64 (c.args.last -ℤ c.args.first) = omega (arith, ints) in
    let fits : FitsSigned w64 ((c.args.last -ℤ c.args.first) +ℤ pos 1) = omega (arith, ints) in
    let most_fits : FitsSigned w64 c.max.result = search rules in
    let is : c.max.result ≡ int_max z (pos 0) = simp to_z-of_z at c.max.ensures.value in
    ap unsigned_abs (to_z-of_z w64 c.max.result most_fits ∙ is) ∙ max_zero z
