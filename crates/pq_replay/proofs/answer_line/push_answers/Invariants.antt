use Rattle.std.proofs.Common.{◌≡◌, ◌++◌, take}
use Rattle.std.specs.List.{flat_map}
use Rattle.pq_replay.specs.AnswerLines.{answer_words}
use Rattle.pq_replay.proofs.answer_line.push_answers.Given as goal

-- what the answers so far say
abbrev pub invariant-loop-answer : goal.invariant-loop-answer
invariant-loop-answer l = l.text.items ≡ l.initial.text.items
    ++ flat_map (answer_words l.clock l.line) (take l.answer-index l.answers)
