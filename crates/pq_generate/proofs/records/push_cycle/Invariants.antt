use Rattle.std.proofs.Common.{◌≡◌, ◌+◌, ◌*◌, ◌++◌}
use Rattle.std.specs.Option.{option_to_list}
use Rattle.pq_generate.specs.GeneratedRecording.{records_between}
use Rattle.pq_generate.proofs.records.push_cycle.Given as goal

-- the records of the places so far
abbrev pub invariant-loop-place : goal.invariant-loop-place
invariant-loop-place l = l.dat.items ≡ l.fn.dat.items ++ records_between (option_to_list l.disturbance)
    (24 * l.cycle) (24 * l.cycle + l.place)
