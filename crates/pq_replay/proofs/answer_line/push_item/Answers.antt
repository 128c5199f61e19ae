use Rattle.std.proofs.Common.{◌≡◌, ◌∙◌, arith, append_assoc}
use Rattle.pq_report.specs.ReportText.{item_row}
use Rattle.pq_replay.specs.AnswerLines.{row_words}
use Rattle.pq_replay.proofs.answer_line.push_item.Goals as goal

-- the row without its line end
pub returns : goal.returns
unfolding item_row
returns c =
    let words = row_words c.args.clock.now c.args.item.now in
    let e : c.without_line_end.result.now ≡ words =
    c.without_line_end.ensures words (c.bytes.ensures ∙ c.in_ok-row.ensures) in
    grind (arith, append_assoc, e)
