use Rattle.std.proofs.Common.{◌≡◌, ◌++◌, drop}
use Rattle.pq_replay.specs.AnswerLines.{answer_lines, joined, measured_lines}
use Rattle.pq_replay.proofs.replaying.replay_over.Given as goal

-- the text so far, and the answer lines of the lines that are left, are all
abbrev pub invariant-loop-line : goal.invariant-loop-line
invariant-loop-line l = l.text.items ++ joined (answer_lines l.clock l.measurement l.machine
    (drop l.line-index l.lines)) ≡ joined (measured_lines l.clock l.measurement l.lines)
