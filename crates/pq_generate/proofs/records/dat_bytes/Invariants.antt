use Rattle.std.proofs.Common.{◌≡◌, ◌*◌}
use Rattle.pq_generate.specs.GeneratedRecording.{disturbances, number_after, records_between}
use Rattle.pq_generate.proofs.records.dat_bytes.Given as goal

-- the number of the index before, and the records of the cycles of the indices so far
abbrev pub invariant-loop-index : goal.invariant-loop-index
invariant-loop-index l = record {
  number : l.number ≡ number_after l.seed l.index;
  records : l.dat.items ≡ records_between (disturbances l.seed) 0 (24 * (3000 * l.index));
}
