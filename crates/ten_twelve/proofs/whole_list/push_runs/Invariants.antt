use Rattle.std.proofs.Common.{◌≡◌, ◌++◌}
use Rattle.ten_twelve.specs.Run.{runs_after}
use Rattle.ten_twelve.proofs.whole_list.push_runs.Given as goal

abbrev pub invariant-loop-k : goal.invariant-loop-k
invariant-loop-k l = l.spans.items ≡ l.fn.spans.items ++ runs_after l.length l.from l.k
