-- The measurement of a generated recording.
use Rattle.std.proofs.Common.{◌≡◌, ◌∙◌, ℕ, List, Result, Ok, Err, refl, ap, ap₂, sym}
use Rattle.command_words.specs.Values.{usual_settings}
use Rattle.event_detect.specs.declared.limits.Limits.{Limits}
use Rattle.event_detect.specs.declared.limits.Settings.{Settings}
use Rattle.pq_base.specs.Recorded.{Recorded}
use Rattle.pq_generate.specs.MeasuredRecording.{generated_recording}
use Rattle.pq_items.specs.declared.item.Item.{Item}
use Rattle.pq_report.specs.Summary.{summary_text}
use Rattle.pq_run.specs.Generating.{generated_limits, generated_summary}
use Rattle.pq_run.specs.SettingsLimits.{settings_limits}
use Rattle.pq_sequence.specs.SequentialResult.{sequential}
use Rattle.pq_words.specs.Text.{Text}
use Rattle.status_text.specs.declared.status.Status.{Status}

-- its settings have limits
limits_found : settings_limits (usual_settings 230000) ≡ Ok generated_limits
unfolding settings_limits
limits_found = refl

pub not_refused : (settings : Settings) (why : Status) → settings ≡ usual_settings 230000
    → Err why ≡ settings_limits settings → ⊥
not_refused settings why usual e =
    let same : Err why ≡ Ok generated_limits = e ∙ ap settings_limits usual ∙ limits_found in cc

-- the summary of its items
pub summarised : (seed : ℕ) (text : Text) (given items : List Item) (recorded : Recorded) (limits : Limits)
    (settings : Settings) → text ≡ summary_text seed 722400 given → given ≡ items
    → items ≡ sequential recorded limits → recorded ≡ generated_recording seed
    → settings ≡ usual_settings 230000 → Ok limits ≡ settings_limits settings
    → ◌≡◌ {A = Result Text Status} (Ok (generated_summary seed)) (Ok text)
unfolding generated_summary
summarised seed text given items recorded limits settings written same sequenced generated usual found =
    let okay : Ok limits ≡ Ok generated_limits = found ∙ ap settings_limits usual ∙ limits_found in
    let known : limits ≡ generated_limits = cc in
    ap (λ t. Ok t) (sym (written ∙ ap (summary_text seed 722400)
    (same ∙ sequenced ∙ ap₂ sequential generated known)))
