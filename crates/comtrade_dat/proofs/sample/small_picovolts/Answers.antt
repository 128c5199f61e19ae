use Rattle.std.proofs.Common.{◌≡◌, ◌∙◌, arith, to_z, of_z, w64, ◌+ℤ◌, ◌*ℤ◌}
use Rattle.std.proofs.lemmas.Int.{fits_signed_from_abs}
use Rattle.comtrade_dat.proofs.SampleLemmas.{count_kept_16, count_kept_64, kept, kept_64, small_product, small_sum}
use Rattle.comtrade_dat.proofs.sample.small_picovolts.Goals as goal

-- nothing of the coefficients, of the product or of the sum is lost
pub overflow_add-result : goal.overflow_add-result
overflow_add-result c =
    let a = c.args.coefficients.now.a in
    let b = c.args.coefficients.now.b in
    let x = c.args.count in
    let count : c.from.result ≡ x = c.from.ensures ∙ count_kept_16 x c.requires.within in
    let of_x : to_z w64 (of_z w64 c.from.result) ≡ x = rw count (count_kept_64 x c.requires.within) in
    let a_wide = kept a (omega (arith, c.requires.small.a)) in
    let a_kept = kept_64 a (omega (arith, c.requires.small.a)) in
    let b_wide = kept b (omega (arith, c.requires.small.b)) in
    let b_kept = kept_64 b (omega (arith, c.requires.small.b)) in
    let product = kept_64 (a *ℤ x)
    (omega (arith, small_product a x c.requires.small.a c.requires.within)) in
    rw (of_x, a_wide, a_kept, product, b_wide, b_kept) (fits_signed_from_abs w64 ((a *ℤ x) +ℤ b)
    (omega (arith, small_sum a b x c.requires.small.a c.requires.small.b c.requires.within)))

pub returns : goal.returns
returns c =
    let a = c.args.coefficients.now.a in
    let b = c.args.coefficients.now.b in
    let x = c.args.count in
    let count : c.from.result ≡ x = c.from.ensures ∙ count_kept_16 x c.requires.within in
    let of_x : to_z w64 (of_z w64 c.from.result) ≡ x = rw count (count_kept_64 x c.requires.within) in
    let a_wide = kept a (omega (arith, c.requires.small.a)) in
    let a_kept = kept_64 a (omega (arith, c.requires.small.a)) in
    let b_wide = kept b (omega (arith, c.requires.small.b)) in
    let b_kept = kept_64 b (omega (arith, c.requires.small.b)) in
    let product = kept_64 (a *ℤ x)
    (omega (arith, small_product a x c.requires.small.a c.requires.within)) in
    rw (of_x, a_wide, a_kept, product, b_wide, b_kept) (kept_64 ((a *ℤ x) +ℤ b)
    (small_sum a b x c.requires.small.a c.requires.small.b c.requires.within))
