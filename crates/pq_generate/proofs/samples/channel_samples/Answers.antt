use Rattle.std.proofs.Common.{◌≡◌, ◌+◌, ◌*◌, ◌++◌, sym, ◌∙◌, ap, arith, refl, [], ◌∷◌, suc, add-one}
use Rattle.pq_generate.proofs.SampleLemmas.{samples_behind, samples_index_pushed, samples_join, samples_none}
use Rattle.pq_generate.specs.GeneratedRecording.{disturbance_by, disturbances, next_number, number_after}
use Rattle.pq_generate.specs.MeasuredRecording.{samples_between}
use Rattle.pq_generate.proofs.samples.channel_samples.Goals as goal

pub loop-index-init : goal.loop-index-init
unfolding number_after
loop-index-init c = record {
  number = refl;
  samples = c.in_ok-samples.ensures.items ∙ sym (samples_none (disturbances c.args.seed) c.args.channel 0);
}

pub loop-index-preserved : goal.loop-index-preserved
unfolding number_after
loop-index-preserved c =
    let seed = c.args.seed in
    let channel = c.args.channel in
    let index = c.loop-index.index in
    let number : c.next_number-number.result ≡ number_after seed (suc index) =
    c.next_number-number.ensures ∙ ap next_number c.loop-index.invariant.number in
    let pushed : c.push_cycles.new.samples.items ≡ c.loop-index.samples.items ++ samples_between
    (c.new-disturbance.result ∷ []) channel (24 * (3000 * index)) (24 * (3000 * index + 3000)) =
    c.in_ok-push_cycles.ensures in
    record {
      number = number ∙ ap (number_after seed) (sym (add-one index));
      samples = pushed
          ∙ ap (λ samples. samples ++ samples_between (c.new-disturbance.result ∷ []) channel
          (24 * (3000 * index)) (24 * (3000 * index + 3000))) c.loop-index.invariant.samples
          ∙ ap (λ d. samples_between (disturbances seed) channel 0 (24 * (3000 * index)) ++ samples_between
          (d ∷ []) channel (24 * (3000 * index)) (24 * (3000 * index + 3000)))
          (c.new-disturbance.ensures ∙ ap (disturbance_by index) number)
          ∙ samples_index_pushed seed channel index c.loop-index-test.true;
    }

pub returns : goal.returns
returns c =
    let seed = c.args.seed in
    let channel = c.args.channel in
    let index = c.loop-index.index in
    let ten : index ≡ 10 = omega arith in
    let pushed : c.push_cycles-2.new.samples.items
    ≡ c.loop-index.samples.items ++ samples_between [] channel 720000 722400 =
    c.in_ok-push_cycles-2.ensures in
    pushed
    ∙ ap (λ samples. samples ++ samples_between [] channel 720000 722400) c.loop-index.invariant.samples
    ∙ ap (λ k. samples_between (disturbances seed) channel 0 (24 * (3000 * k)) ++ samples_between [] channel
    720000 722400) ten
    ∙ ap (λ rest. samples_between (disturbances seed) channel 0 720000 ++ rest) (samples_behind seed channel)
    ∙ samples_join (disturbances seed) channel 0 720000 722400 (omega arith) (omega arith)
