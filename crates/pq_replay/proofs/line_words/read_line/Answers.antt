use Rattle.std.proofs.Common.{sym, ◌∙◌}
use Rattle.pq_replay.proofs.CuttingLemmas.{one_word, three_numbers}
use Rattle.pq_replay.proofs.line_words.read_line.Goals as goal

-- a word alone
pub returns-in_err-word : goal.returns-in_err-word
returns-in_err-word c =
    c.from_residual.ensures ∙ sym (one_word c.args.text.now c.in_err-word.ensures.none)

-- three numbers or more
pub returns-in-Some-cut : goal.returns-in-Some-cut
returns-in-Some-cut c =
    sym (three_numbers c.args.text.now c.in_ok-word.word.now c.in_ok-word.numbers.now c.in-Some.first.now
    c.in-Some.second.now c.in-Some-cut.field-0.0.now c.in-Some-cut.field-0.1.now c.in_ok-word.ensures.value
    c.in-Some.ensures.value c.in-Some-cut.ensures.value)
