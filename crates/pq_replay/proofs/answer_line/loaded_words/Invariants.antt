use Rattle.std.proofs.Common.{◌≡◌, take}
use Rattle.std.specs.List.{flat_map}
use Rattle.pq_replay.specs.AnswerLines.{word_loaded}
use Rattle.pq_replay.proofs.answer_line.loaded_words.Given as goal

-- what the answers so far say
abbrev pub invariant-loop-answer : goal.invariant-loop-answer
invariant-loop-answer l = l.words.items ≡ flat_map word_loaded (take l.answer-index l.answers)
