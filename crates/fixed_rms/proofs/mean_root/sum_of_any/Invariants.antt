use Rattle.std.proofs.Common.{◌≡◌, ◌*◌, ◌^◌, ◌≤◌, take}
use Rattle.pq_words.specs.declared.limits.TheConstants.{MOST_MICROVOLTS}
use Rattle.fixed_rms.specs.Root.{sum_of_squares}
use Rattle.fixed_rms.proofs.mean_root.sum_of_any.Given as goal

-- the squares so far, each of them at most 10^26
abbrev pub invariant-loop-sample : goal.invariant-loop-sample
invariant-loop-sample l = record {
  total : l.sum ≡ sum_of_squares (take l.sample-index l.samples);
  small : l.sum ≤ l.sample-index * MOST_MICROVOLTS ^ 2;
}
