use Rattle.std.proofs.Common.{◌≡◌, ℕ, ◌+◌, ◌<◌, ◌≤◌, slice_index}
use Rattle.fixed_rms.specs.Root.{square}
use Rattle.aggregate.proofs.sum.add_squares.Given as goal

-- the squares of the channels so far are added
abbrev pub invariant-loop-channel : goal.invariant-loop-channel
invariant-loop-channel l = record {
  added : (k : ℕ) → k < l.channel
      → slice_index l.squares k ≡ slice_index l.fn.squares k + square (slice_index l.values k);
  left : (k : ℕ) → l.channel ≤ k → slice_index l.squares k ≡ slice_index l.fn.squares k;
}
