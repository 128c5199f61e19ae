use Rattle.std.proofs.Common.{◌≡◌, ◌*◌}
use Rattle.pq_generate.specs.GeneratedRecording.{disturbances, number_after}
use Rattle.pq_generate.specs.MeasuredRecording.{samples_between}
use Rattle.pq_generate.proofs.samples.channel_samples.Given as goal

-- the number of the index before, and the samples of the cycles of the indices so far
abbrev pub invariant-loop-index : goal.invariant-loop-index
invariant-loop-index l = record {
  number : l.number ≡ number_after l.seed l.index;
  samples : l.samples.items ≡ samples_between (disturbances l.seed) l.channel 0 (24 * (3000 * l.index));
}
