use Rattle.std.proofs.Common.{◌+◌, ◌*◌, ◌++◌, ◌∙◌, ap, arith}
use Rattle.std.proofs.lemmas.List.{append-nil}
use Rattle.std.specs.Option.{option_to_list}
use Rattle.pq_generate.proofs.SampleLemmas.{samples_cycle_pushed, samples_none}
use Rattle.pq_generate.specs.MeasuredRecording.{samples_between}
use Rattle.pq_generate.proofs.samples.push_cycles.Goals as goal

pub loop-cycle-init : goal.loop-cycle-init
loop-cycle-init c = grind (arith, append-nil, samples_none)

pub loop-cycle-preserved : goal.loop-cycle-preserved
loop-cycle-preserved c = c.in_ok-push_cycle.ensures
    ∙ ap (λ samples. samples ++ samples_between (option_to_list c.args.disturbance) c.args.channel
    (24 * c.loop-cycle.cycle) (24 * (c.loop-cycle.cycle + 1))) c.loop-cycle.invariant
    ∙ samples_cycle_pushed (option_to_list c.args.disturbance) c.args.samples.now.items c.args.channel
    c.args.start c.loop-cycle.cycle c.loop-cycle.auto.cycle
