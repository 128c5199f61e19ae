use Rattle.std.proofs.Common.{◌≡◌, ◌*◌, ◌^◌, ◌≤◌, take, sum_by}
use Rattle.pq_words.specs.declared.limits.TheConstants.{MOST_MICROVOLTS}
use Rattle.fixed_rms.specs.Root.{square}
use Rattle.fixed_rms.proofs.mean_root.root_mean.Given as goal

-- the squares so far, each of them at most 10^26
abbrev pub invariant-loop-value : goal.invariant-loop-value
invariant-loop-value l = record {
  total : l.sum ≡ sum_by square (take l.value-index l.values);
  small : l.sum ≤ l.value-index * MOST_MICROVOLTS ^ 2;
}
