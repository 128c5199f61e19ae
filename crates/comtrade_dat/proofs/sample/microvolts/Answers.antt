use Rattle.std.proofs.Common.{◌≡◌, ◌∙◌, ap, arith, to_z, of_z, w64, pos, neg_ℤ, ◌+ℤ◌, ◌-ℤ◌, ◌*ℤ◌, ◌≤ℤ◌, ◌<ℤ◌}
use Rattle.std.proofs.lemmas.Int.{ints}
use Rattle.jiff_core.proofs.SignedLemmas.{signed_arith}
use Rattle.std.specs.Prelude.{unsigned_abs}
use Rattle.pq_base.specs.Decimal.{rounded_quotient, rounded_ratio}
use Rattle.pq_base.specs.Sample.{sample_of}
use Rattle.comtrade_dat.proofs.SampleLemmas.{count_kept_16, kept, rounded_above, rounded_below}
use Rattle.comtrade_dat.proofs.sample.microvolts.Goals as goal

pub returns-then-picovolts-lt0-clause-value : goal.returns-then-picovolts-lt0-clause-value
unfolding sample_of
returns-then-picovolts-lt0-clause-value c =
    let k = c.args.coefficients.now in
    let z = c.picovolts-picovolts.result in
    let size : c.rounded-size.result ≡ pos (rounded_quotient (unsigned_abs z) 1000000) =
    c.rounded-size.ensures.value ∙ ap (λ n. pos (rounded_quotient n 1000000))
    (c.unsigned_abs.ensures.value ∙ ap unsigned_abs (kept z c.picovolts-picovolts.ensures.within)) in
    let below : z <ℤ pos 0 = omega (arith, signed_arith, c.if-picovolts-lt0.true) in
    let minus : to_z w64 (of_z w64 (pos 0 -ℤ to_z w64 (of_z w64 c.rounded-size.result)))
    ≡ neg_ℤ c.rounded-size.result = omega (arith, ints, size, c.rounded-size.ensures.within) in
    minus ∙ (ap neg_ℤ size ∙ (rounded_below z below ∙ ap (λ z. rounded_ratio z 1000000)
    (c.picovolts-picovolts.ensures.value ∙ ap (λ x. (k.a *ℤ x) +ℤ k.b)
    (count_kept_16 c.args.count c.requires.within))))

pub returns-else-picovolts-lt0-clause-value : goal.returns-else-picovolts-lt0-clause-value
unfolding sample_of
returns-else-picovolts-lt0-clause-value c =
    let k = c.args.coefficients.now in
    let z = c.picovolts-picovolts.result in
    let size : c.rounded-size.result ≡ pos (rounded_quotient (unsigned_abs z) 1000000) =
    c.rounded-size.ensures.value ∙ ap (λ n. pos (rounded_quotient n 1000000))
    (c.unsigned_abs.ensures.value ∙ ap unsigned_abs (kept z c.picovolts-picovolts.ensures.within)) in
    let above : pos 0 ≤ℤ z = omega (arith, signed_arith, c.if-picovolts-lt0.false) in
    let same : to_z w64 (of_z w64 c.rounded-size.result) ≡ c.rounded-size.result =
    omega (arith, ints, size, c.rounded-size.ensures.within) in
    same ∙ (size ∙ (rounded_above z above ∙ ap (λ z. rounded_ratio z 1000000)
    (c.picovolts-picovolts.ensures.value ∙ ap (λ x. (k.a *ℤ x) +ℤ k.b)
    (count_kept_16 c.args.count c.requires.within))))
