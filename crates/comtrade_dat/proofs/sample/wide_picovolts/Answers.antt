use Rattle.std.proofs.Common.{◌≡◌, ◌∙◌, ◌^◌, ◌≤◌, sym, ap, subst, arith, to_z, of_z, w64, ◌+ℤ◌, ◌*ℤ◌}
use Rattle.std.proofs.lemmas.Int.{fits_signed_from_abs, to_z-of_z}
use Rattle.std.specs.Int.{w128}
use Rattle.std.specs.Prelude.{unsigned_abs}
use Rattle.comtrade_dat.proofs.SampleLemmas.{count_kept, count_kept_16, kept, product_bound, sum_bound}
use Rattle.comtrade_dat.proofs.sample.wide_picovolts.Goals as goal

-- nothing of the coefficients, of the product or of the sum is lost
pub returns-clause-value : goal.returns-clause-value
returns-clause-value c =
    let a = c.args.coefficients.now.a in
    let b = c.args.coefficients.now.b in
    let x = c.args.count in
    let of_a = kept a (omega (arith, c.requires.limit)) in
    let a_fits : to_z w64 (of_z w64 a) ≡ a =
    to_z-of_z w64 a (fits_signed_from_abs w64 a (omega (arith, c.requires.limit))) in
    let factor : c.from.result ≡ a = c.from.ensures ∙ (ap (λ z. to_z w64 (of_z w64 z)) of_a ∙ a_fits) in
    let count : c.from-2.result ≡ x = c.from-2.ensures ∙ count_kept_16 x c.requires.within in
    let of_b = kept b (omega (arith, c.requires.limit)) in
    let of_factor : to_z w128 (of_z w128 c.from.result) ≡ a = rw factor of_a in
    let of_x : to_z w128 (of_z w128 c.from-2.result) ≡ x = rw count (count_kept x c.requires.within) in
    let product = kept (a *ℤ x) (product_bound a b x c.requires.limit c.requires.within) in
    rw (of_factor, of_x, product, of_b) (kept ((a *ℤ x) +ℤ b)
    (sum_bound a b x c.requires.limit c.requires.within))

pub returns-clause-within : goal.returns-clause-within
returns-clause-within c =
    subst (λ z. unsigned_abs z ≤ 10 ^ 19) (sym (returns-clause-value c))
    (sum_bound c.args.coefficients.now.a c.args.coefficients.now.b c.args.count c.requires.limit
    c.requires.within)
