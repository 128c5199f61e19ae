use Rattle.std.proofs.Common.{◌+◌, ◌*◌, ◌++◌, ◌∙◌, ap, arith}
use Rattle.std.proofs.lemmas.List.{append-nil}
use Rattle.std.specs.Option.{option_to_list}
use Rattle.pq_generate.proofs.RecordLemmas.{cycle_pushed, records_none}
use Rattle.pq_generate.specs.GeneratedRecording.{records_between}
use Rattle.pq_generate.proofs.records.push_cycles.Goals as goal

pub loop-cycle-init : goal.loop-cycle-init
loop-cycle-init c = grind (arith, append-nil, records_none)

pub loop-cycle-preserved : goal.loop-cycle-preserved
loop-cycle-preserved c = c.in_ok-push_cycle.ensures
    ∙ ap (λ dat. dat ++ records_between (option_to_list c.args.disturbance) (24 * c.loop-cycle.cycle)
    (24 * (c.loop-cycle.cycle + 1))) c.loop-cycle.invariant
    ∙ cycle_pushed (option_to_list c.args.disturbance) c.args.dat.now.items c.args.start c.loop-cycle.cycle
    c.loop-cycle.auto.cycle
