use Rattle.std.proofs.Common.{◌∙◌, sym, ap, ℤ, pos, ◌*ℤ◌, to_z, of_z}
use Rattle.std.proofs.lemmas.Int.{to_z-of_z}
use Rattle.std.specs.Int.{w16, w64}
use Rattle.pq_generate.proofs.SampleLemmas.{sample_is, sample_kept}
use Rattle.pq_generate.specs.Cycles.{count_in_cycle}
use Rattle.pq_generate.proofs.samples.sample.Goals as goal

pub returns : goal.returns
returns c =
    let on : ℤ → ℤ = λ count. count_in_cycle c.args.disturbance c.args.cycle count c.args.channel in
    ap (λ z. to_z w64 (of_z w64 (pos 32500 *ℤ to_z w64 (of_z w64 z)))) c.from.ensures
    ∙ sample_kept c.channel_count.result c.channel_count.ensures.within
    ∙ ap (λ count. pos 32500 *ℤ count) c.channel_count.ensures.value
    ∙ ap (λ count. pos 32500 *ℤ on count) (to_z-of_z w16 c.args.count c.ranges.count)
    ∙ sym (sample_is (on c.args.count))
