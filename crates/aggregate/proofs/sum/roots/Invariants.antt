use Rattle.std.proofs.Common.{◌≡◌, ℕ, ◌/◌, ◌<◌, ◌≤◌, slice_index, length}
use Rattle.fixed_rms.specs.Root.{isqrt}
use Rattle.aggregate.specs.BasicOrder.{AreQuiet}
use Rattle.aggregate.proofs.sum.roots.Given as goal

-- the roots of the channels so far, and 0 behind them
abbrev pub invariant-loop-channel : goal.invariant-loop-channel
invariant-loop-channel l = record {
  long : length l.values ≡ 16;
  done : (k : ℕ) → k < l.channel → slice_index l.values k ≡ isqrt (slice_index l.squares k / l.count);
  left : (k : ℕ) → l.channel ≤ k → slice_index l.values k ≡ 0;
  quiet : AreQuiet l.values;
}
