use Rattle.std.proofs.Common.{◌*◌, ◌≤◌, ◌-◌}
use Rattle.pq_words.specs.declared.limits.TheConstants.{MOST_MICROVOLTS}
use Rattle.fixed_rms.proofs.integer_root.raise_to_root.Given as goal

-- the square of the root so far fits, and so the root is small
abbrev pub invariant-loop-root : goal.invariant-loop-root
invariant-loop-root l = record { fits : l.root * l.root ≤ l.x; small : l.root ≤ MOST_MICROVOLTS }

abbrev pub decreases-loop-root : goal.decreases-loop-root
decreases-loop-root l = l.x - l.root * l.root
