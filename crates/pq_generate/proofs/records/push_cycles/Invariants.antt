use Rattle.std.proofs.Common.{◌≡◌, ◌*◌, ◌++◌}
use Rattle.std.specs.Option.{option_to_list}
use Rattle.pq_generate.specs.GeneratedRecording.{records_between}
use Rattle.pq_generate.proofs.records.push_cycles.Given as goal

-- the records of the cycles so far
abbrev pub invariant-loop-cycle : goal.invariant-loop-cycle
invariant-loop-cycle l = l.dat.items ≡ l.fn.dat.items ++ records_between (option_to_list l.disturbance)
    (24 * l.start) (24 * l.cycle)
