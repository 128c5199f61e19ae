use Rattle.std.proofs.Common.{ap, ◌∙◌, arith, decimal}
use Rattle.pq_report.specs.ReportText.{IsReportable, kind_of, kind_word, mark_word, place_text, tick_text}
use Rattle.pq_report.proofs.QuoteLemmas.{ten_fields, written_row}
use Rattle.pq_report.proofs.rows.row.Goals as goal

-- no field needs quotes
pub returns : goal.returns
returns c =
    let clock = c.args.clock.now in
    let i = c.args.item.now in
    let small : IsReportable i = record {
      range = c.requires.within;
      value = omega arith;
      count =
          omega arith;
    } in
    written_row clock i c.text_of.result _ c.text_of.ensures small (ten_fields
    (c.as_bytes.ensures.value ∙ c.word.ensures ∙ ap kind_word c.of-kind.ensures)
    (c.as_bytes-2.ensures.value ∙ c.format.ensures.text ∙ ap decimal c.channel.ensures)
    (c.as_bytes-3.ensures.value ∙ c.format-2.ensures.text ∙ ap decimal c.start-2.ensures)
    (c.as_bytes-4.ensures.value ∙ c.format-3.ensures.text ∙ ap decimal c.end-2.ensures)
    (c.place_moment-from.ensures ∙ ap (place_text clock) c.start.ensures)
    (c.place_moment-to.ensures ∙ ap (place_text clock) c.end.ensures)
    (c.tick_field.ensures ∙ ap tick_text c.tick.ensures)
    (c.as_bytes-5.ensures.value ∙ c.format-4.ensures.text ∙ ap decimal c.value.ensures)
    (c.as_bytes-6.ensures.value ∙ c.format-5.ensures.text ∙ ap decimal c.count.ensures)
    (c.as_bytes-7.ensures.value ∙ c.mark_word.ensures
    ∙ ap (λ k. mark_word k c.has_mark.result) c.of-kind.ensures
    ∙ ap (mark_word (kind_of i)) c.has_mark.ensures))
