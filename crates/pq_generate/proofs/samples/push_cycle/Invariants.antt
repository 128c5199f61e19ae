use Rattle.std.proofs.Common.{◌≡◌, ◌+◌, ◌*◌, ◌++◌}
use Rattle.std.specs.Option.{option_to_list}
use Rattle.pq_generate.specs.MeasuredRecording.{samples_between}
use Rattle.pq_generate.proofs.samples.push_cycle.Given as goal

-- the samples of the places so far
abbrev pub invariant-loop-count : goal.invariant-loop-count
invariant-loop-count l = l.samples.items ≡ l.fn.samples.items ++ samples_between
    (option_to_list l.disturbance) l.channel (24 * l.cycle) (24 * l.cycle + l.count-index)
