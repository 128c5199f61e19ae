-- The rows of the items of a recording are its report.
use Rattle.std.proofs.Common.{◌≡◌, ◌∙◌, List, Result, Ok, ap, sym}
use Rattle.event_detect.specs.declared.limits.Limits.{Limits}
use Rattle.pq_base.specs.Recorded.{Recorded}
use Rattle.pq_items.specs.declared.item.Item.{Item}
use Rattle.pq_report.specs.ReportText.{rows_text}
use Rattle.pq_run.specs.Measuring.{report_text}
use Rattle.pq_sequence.specs.MeasuredRecording.{clock_of}
use Rattle.pq_sequence.specs.SequentialResult.{sequential}
use Rattle.pq_time.specs.declared.clock.Clock.{Clock}
use Rattle.pq_words.specs.Text.{Text}
use Rattle.status_text.specs.declared.status.Status.{Status}

pub reported : (recorded : Recorded) (limits : Limits) (text : Text) (clock : Clock) (given items : List Item)
    → text ≡ rows_text clock given → clock ≡ clock_of recorded → given ≡ items
    → items ≡ sequential recorded limits
    → ◌≡◌ {A = Result Text Status} (Ok (report_text recorded limits)) (Ok text)
unfolding report_text
reported recorded limits text clock given items rows clocked same sequenced =
    ap (λ t. Ok t) (sym (rows ∙ ap (λ k. rows_text k given) clocked
    ∙ ap (rows_text (clock_of recorded)) (same ∙ sequenced)))
