use Rattle.std.proofs.Common.{◌≡◌, ℕ, ◌<◌, length, slice_index}
use Rattle.aggregate.specs.BasicOrder.{AreQuiet}
use Rattle.aggregate.proofs.short.padded.Given as goal

-- the values so far are there
abbrev pub invariant-loop-channel : goal.invariant-loop-channel
invariant-loop-channel l = record {
  long : length l.padded ≡ 16;
  same : (k : ℕ) → k < l.channel → slice_index l.padded k ≡ slice_index l.values k;
  quiet : AreQuiet l.padded;
}
