use Rattle.std.proofs.Common.{◌≡◌, ◌∙◌, ◌+◌, ◌*◌, ◌<◌, ◌≤◌, [], ◌∷◌, ◌++◌, length, take, slice_set, refl, sym, ap, subst, arith, rules, to_z, of_z, FitsSigned, w16, w64}
use Rattle.std.proofs.lemmas.Int.{ints, to_z-of_z}
use Rattle.std.proofs.lemmas.Nat.{mul-le}
use Rattle.std.proofs.lemmas.Grind.{common_steps}
use Rattle.std.proofs.lemmas.List.{take_all, take_more_set}
use Rattle.std.proofs.lemmas.List.Elements.{All-push}
use Rattle.std.proofs.lemmas.List.FromFn.{map-range_with_len_more}
use Rattle.std.specs.List.{All}
use Rattle.comtrade_dat.specs.BinaryRecord.{count_in}
use Rattle.comtrade_dat.specs.Channel.{samples_from}
use Rattle.comtrade_dat.specs.Samples.{sample_at}
use Rattle.pq_base.specs.Sample.{sample_of}
use Rattle.pq_words.specs.declared.limits.TheConstants.{MOST_MICROVOLTS}
use Rattle.pq_words.specs.Magnitude.{IsWithin}
use Rattle.comtrade_dat.proofs.channel.make_samples.Goals as goal

-- there are no more records than bytes
pub overflow_add-start : goal.overflow_add-start
overflow_add-start c =
    let all = c.args.start + length c.args.places.now in
    let once : 1 * all ≤ c.args.size * all =
    mul-le 1 all c.args.size all (omega (arith, c.requires.room)) (omega arith) in
    let bytes : all ≤ length c.args.dat.now = omega (arith, once, c.requires.whole) in
    search (rules, bytes)

-- one more sample
pub loop-index-preserved : goal.loop-index-preserved
loop-index-preserved c =
    let index = c.loop-index.index in
    let places = c.loop-index.places in
    let start = c.args.start in
    let position = c.args.position in
    let k = c.args.coefficients.now in
    let x = c.microvolts.result in
    let written = to_z w64 (of_z w64 x) in
    let samples = sample_at k c.args.size position c.args.dat.now in
    let count = c.count_in-count.result in
    let fits : FitsSigned w16 count = search rules in
    let kept : to_z w16 (of_z w16 count) ≡ count = to_z-of_z w16 count fits in
    let sample : x ≡ samples (start + index) = c.microvolts.ensures.value
    ∙ ap (sample_of k.a k.b) (kept ∙ (c.count_in-count.ensures
    ∙ ap (λ bytes. count_in bytes position) c.record_at.ensures.value)) in
    let same : written ≡ x = omega (arith, ints, c.microvolts.ensures.quiet) in
    let inside : index < length places = search rules in
    let more : take (index + 1) (slice_set places index written) ≡ take index places ++ x ∷ [] =
    take_more_set places index written inside ∙ ap (λ y. take index places ++ y ∷ []) same in
    record {
      len = grind (arith, common_steps, c.loop-index.invariant.len);
      value = more ∙ (ap (λ xs. xs ++ x ∷ []) c.loop-index.invariant.value
          ∙ (ap (λ y. samples_from k c.args.size position c.args.dat.now start index ++ y ∷ []) sample
          ∙ sym (map-range_with_len_more samples start index (start + index) refl)));
      quiet = subst (All (IsWithin MOST_MICROVOLTS)) (sym more)
          (All-push (IsWithin MOST_MICROVOLTS) (take index places) x c.loop-index.invariant.quiet
          c.microvolts.ensures.quiet);
    }

pub returns-clause-quiet : goal.returns-clause-quiet
returns-clause-quiet c =
    let whole : length c.loop-index.places ≤ c.loop-index.index = search rules in
    subst (All (IsWithin MOST_MICROVOLTS)) (take_all c.loop-index.index c.loop-index.places whole)
    c.loop-index.invariant.quiet
