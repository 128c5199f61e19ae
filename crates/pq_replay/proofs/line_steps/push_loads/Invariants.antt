use Rattle.std.proofs.Common.{◌≡◌, ◌++◌}
use Rattle.pq_replay.specs.Schedule.{loads}
use Rattle.pq_replay.proofs.line_steps.push_loads.Given as goal

-- the loads so far
abbrev pub invariant-loop-lane : goal.invariant-loop-lane
invariant-loop-lane l = l.steps.items ≡ l.initial.steps.items ++ loads l.lane l.session
