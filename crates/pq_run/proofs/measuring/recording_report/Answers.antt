use Rattle.pq_run.proofs.MeasuringLemmas.{reported}
use Rattle.pq_run.proofs.measuring.recording_report.Goals as goal

pub returns-clause-value : goal.returns-clause-value
returns-clause-value c = reported c.args.recording.now c.args.limits.now c.in_ok-text.text c.clock_of.result
    c.deref.result.now c.in_ok-items.items.items c.in_ok-text.ensures c.clock_of.ensures.value
    c.deref.ensures.value c.in_ok-items.ensures.value
