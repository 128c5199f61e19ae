use Rattle.pq_run.proofs.GeneratingLemmas.{not_refused, summarised}
use Rattle.pq_run.proofs.generating.generated_summary.Goals as goal

-- the usual settings are not refused
pub returns-in_err-limits-clause-value : goal.returns-in_err-limits-clause-value
returns-in_err-limits-clause-value g c = absurd (not_refused c.usual_settings.result c.in_err-limits.field-0.0
    c.usual_settings.ensures.value c.in_err-limits.ensures.value)

pub returns-clause-value : goal.returns-clause-value
returns-clause-value g c = summarised c.args.seed c.in_ok-text.text c.deref.result.now
    c.in_ok-items.items.items c.in_ok-recording.recording c.in_ok-limits.limits c.usual_settings.result
    c.in_ok-text.ensures.value c.deref.ensures.value c.in_ok-items.ensures.value c.in_ok-recording.ensures
    c.usual_settings.ensures.value c.in_ok-limits.ensures.value
