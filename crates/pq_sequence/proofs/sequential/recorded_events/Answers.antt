use Rattle.std.proofs.Common.{◌≡◌, ◌∙◌, IfOk, ap, arith, length, subst}
use Rattle.std.proofs.lemmas.List.{length-map}
use Rattle.polyphase.specs.PolyphaseEvent.{all_polyphase_events, merged_windows}
use Rattle.pq_base.specs.Recorded.{sample_count}
use Rattle.pq_sequence.specs.MeasuredRecording.{channel_windows}
use Rattle.pq_sequence.proofs.sequential.recorded_events.Goals as goal

-- there are as many lists of windows as channels
pub supply_events-requires-clause-channels : goal.supply_events-requires-clause-channels
supply_events-requires-clause-channels c =
    let r = c.args.recording.now in
    let is = c.len.ensures.conditions in
    let count = ap length c.in_ok-channels.ensures.value ∙ length-map r.samples (channel_windows r) in
    (omega (arith, count, is.paired, is.channels), omega (arith, count, is.paired, is.channels))

-- their merged windows are the recording's
pub returns-clause-value : goal.returns-clause-value
returns-clause-value c =
    let r = c.args.recording.now in
    let limits = c.args.limits.now in
    let is = c.len.ensures.conditions in
    let channels = c.in_ok-channels.channels.items in
    let whole = c.in_ok-channels.ensures.value in
    let count : length channels ≡ length r.numbers =
    let lists = ap length whole ∙ length-map r.samples (channel_windows r) in
    omega (arith, lists, is.paired) in
    let n = c.len.ensures.value in
    subst (λ events. IfOk c.supply_events.result (λ found. found.items ≡ events))
    (ap (λ k. all_polyphase_events limits k c.len.result (merged_windows channels)) count
    ∙ ap (λ k. all_polyphase_events limits (length r.numbers) k (merged_windows channels)) n
    ∙ ap (λ ws. all_polyphase_events limits (length r.numbers) (sample_count r) (merged_windows ws)) whole)
    c.supply_events.ensures
