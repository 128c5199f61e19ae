use Rattle.std.proofs.Common.{◌≡◌, ◌+◌, ◌∷◌, [], length, length-append, arith, ap, ◌∙◌}
use Rattle.pq_replay.proofs.AnswerLemmas.{front_is}
use Rattle.pq_replay.proofs.answer_line.without_line_end.Goals as goal

pub returns-in-Some : goal.returns-in-Some
returns-in-Some c words is =
    front_is c.args.row.now c.in-Some.words.now words _ c.in-Some.ensures.cases.0 c.in-Some.ensures.cases.1 is

-- a row has a line end
pub returns-in-None : goal.returns-in-None
returns-in-None c words is =
    let count : length c.args.row.now ≡ length words + 1 = ap length is ∙ length-append words (10 ∷ []) in
    absurd (omega (arith, count, c.in-None.ensures.cases))
