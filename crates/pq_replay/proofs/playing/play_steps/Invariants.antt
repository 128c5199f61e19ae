use Rattle.std.proofs.Common.{◌≡◌, drop}
use Rattle.pq_replay.specs.AnswerLines.{answers_along, answers_before}
use Rattle.pq_replay.proofs.playing.play_steps.Given as goal

-- the answers so far, and those of the steps that are left, are all
abbrev pub invariant-loop-step : goal.invariant-loop-step
invariant-loop-step l = answers_before l.answers.items (answers_along l.measurement l.machine
    (drop l.step-index l.steps)) ≡ answers_along l.measurement l.initial.machine l.steps
