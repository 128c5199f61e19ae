use Rattle.std.proofs.Common.{◌≡◌, ◌+◌, ◌*◌, ◌++◌, [], ◌∷◌, get_or, pos, to_z, of_z, ◌∙◌, ap, arith, rules, FitsSigned}
use Rattle.std.proofs.lemmas.Int.{to_z-of_z}
use Rattle.std.proofs.lemmas.List.{append-nil}
use Rattle.std.specs.Int.{w16, w64}
use Rattle.std.specs.Option.{option_to_list}
use Rattle.pq_base.specs.Sample.{sample_of}
use Rattle.pq_generate.proofs.CountLemmas.{sine_back}
use Rattle.pq_generate.proofs.SampleLemmas.{sample_pushed, samples_none}
use Rattle.pq_generate.specs.Cycles.{count_in_cycle}
use Rattle.pq_generate.specs.GeneratedRecording.{sine}
use Rattle.pq_generate.specs.MeasuredRecording.{samples_between}
use Rattle.pq_generate.proofs.samples.push_cycle.Goals as goal

pub loop-count-init : goal.loop-count-init
loop-count-init c = grind (arith, append-nil, samples_none)

pub loop-count-preserved : goal.loop-count-preserved
loop-count-preserved c =
    let d = c.args.disturbance in
    let channel = c.args.channel in
    let cycle = c.args.cycle in
    let place = c.loop-count.count-index in
    let below = c.loop-count-test.true in
    let sampled : c.sample.result ≡ sample_of (pos 32500000000) (pos 0)
    (count_in_cycle d cycle (to_z w16 (of_z w16 (get_or sine place (pos 0)))) channel) = c.sample.ensures in
    let known = sampled ∙ ap (λ count. sample_of (pos 32500000000) (pos 0)
    (count_in_cycle d cycle count channel)) (sine_back place below) in
    let fits : FitsSigned w64 c.sample.result = search rules in
    c.in_ok-push.ensures.items
    ∙ ap (λ samples. samples ++ to_z w64 (of_z w64 c.sample.result) ∷ []) c.loop-count.invariant
    ∙ sample_pushed (option_to_list d) c.args.samples.now.items (to_z w64 (of_z w64 c.sample.result)) channel
    cycle place below (to_z-of_z w64 c.sample.result fits ∙ known)

pub returns : goal.returns
returns c =
    let whole : 24 * c.args.cycle + c.loop-count.count-index ≡ 24 * (c.args.cycle + 1) = omega arith in
    c.loop-count.invariant
    ∙ ap (λ end. c.args.samples.now.items ++ samples_between (option_to_list c.args.disturbance)
    c.args.channel (24 * c.args.cycle) end) whole
