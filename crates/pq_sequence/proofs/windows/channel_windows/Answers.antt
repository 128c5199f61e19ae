use Rattle.std.proofs.Common.{All, List, slice_index_or, subst, sym, take}
use Rattle.std.proofs.lemmas.List.Elements.{All-map}
use Rattle.event_detect.specs.declared.window.Window.{Window}
use Rattle.half_cycle.proofs.WindowBounds.{windows_rise}
use Rattle.pq_sequence.specs.MeasuredRecording.{channel_windows, recorded_rule}
use Rattle.supply_events.specs.FirstStart.{Rise}
use Rattle.zero_cross.specs.Boundary.{IsRule}
use Rattle.pq_sequence.proofs.windows.channel_windows.Goals as goal

-- the windows of each channel rise
pub returns-clause-rise : goal.returns-clause-rise
returns-clause-rise c =
    let r = c.args.recording.now in
    let found = take c.loop-position.position r.samples in
    let rule : IsRule (recorded_rule r) =
    subst IsRule c.recorded_rule-rule.ensures.value c.recorded_rule-rule.ensures.rule in
    subst (λ (channels : List (List Window)). All Rise channels) (sym c.loop-position.invariant)
    (All-map Rise (channel_windows r) found
    (λ k d inside. windows_rise (slice_index_or found k d) (recorded_rule r) rule))
