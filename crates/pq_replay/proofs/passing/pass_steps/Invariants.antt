use Rattle.std.proofs.Common.{◌≡◌, drop}
use Rattle.pq_replay.specs.Schedule.{phases_after_steps}
use Rattle.pq_replay.proofs.passing.pass_steps.Given as goal

-- the steps that are left lead to where all lead
abbrev pub invariant-loop-step : goal.invariant-loop-step
invariant-loop-step l = phases_after_steps l.phases (drop l.step-index l.steps)
    ≡ phases_after_steps l.initial.phases l.steps
