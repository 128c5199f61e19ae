use Rattle.std.proofs.Common.{◌≡◌, ◌*◌, ◌++◌}
use Rattle.std.specs.Option.{option_to_list}
use Rattle.pq_generate.specs.MeasuredRecording.{samples_between}
use Rattle.pq_generate.proofs.samples.push_cycles.Given as goal

-- the samples of the cycles so far
abbrev pub invariant-loop-cycle : goal.invariant-loop-cycle
invariant-loop-cycle l = l.samples.items ≡ l.fn.samples.items
    ++ samples_between (option_to_list l.disturbance) l.channel (24 * l.start) (24 * l.cycle)
