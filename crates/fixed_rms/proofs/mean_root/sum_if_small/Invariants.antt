use Rattle.std.proofs.Common.{◌≡◌, ◌+◌, ◌*◌, ◌≤◌, true, take}
use Rattle.fixed_rms.specs.Root.{sum_of_squares}
use Rattle.fixed_rms.specs.declared.mean_root.TheConstants.{WORD}
use Rattle.fixed_rms.proofs.mean_root.sum_if_small.Given as goal

-- the squares so far, in halves, each of them of 32 bits
abbrev pub invariant-loop-sample : goal.invariant-loop-sample
invariant-loop-sample l = record {
  total : l.are_small ≡ true → l.high * WORD + l.low ≡ sum_of_squares (take l.sample-index l.samples);
  lows : l.low ≤ l.sample-index * WORD;
  highs : l.high ≤ l.sample-index * WORD;
}
