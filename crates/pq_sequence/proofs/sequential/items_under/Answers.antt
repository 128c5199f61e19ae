use Rattle.std.proofs.Common.{[], ◌++◌, List, sym, ◌∙◌, ap, subst}
use Rattle.pq_sequence.specs.Measured.{intervals_seen}
use Rattle.pq_sequence.specs.MeasuredRecording.{basics_of, readings_of, reference_cycles, shorts_of, tens_of, two_hours_of}
use Rattle.pq_sequence.specs.SequentialResult.{basic_items, event_items, for_each_channel, items_under, reading_items, short_item, ten_item, two_hour_item}
use Rattle.pq_sequence.specs.Touches.{AreReaches}
use Rattle.pq_sequence.specs.declared.touches.Reach.{Reach}
use Rattle.pq_sequence.proofs.ItemLemmas.{joined, seen_intervals}
use Rattle.pq_sequence.proofs.sequential.items_under.Goals as goal

-- the reaches are those of the events
pub recorded_intervals-requires : goal.recorded_intervals-requires
recorded_intervals-requires c = (
  c.args.events.now,
  subst (λ (found : List Reach). AreReaches c.args.events.now found)
      (sym c.deref.ensures.value) c.in_ok-reaches.ensures,
)

-- the readings, the intervals and the events
pub returns : goal.returns
unfolding items_under
returns c =
    let r = c.args.recording.now in
    let events = c.args.events.now in
    let boundaries = reference_cycles r in
    let basics = basics_of r events boundaries in
    let tens = tens_of r basics in
    let readings = reading_items events (readings_of r boundaries) in
    let are = subst (λ (found : List Reach). AreReaches events found) (sym c.deref.ensures.value)
    c.in_ok-reaches.ensures in
    let also = subst (λ (found : List Reach). AreReaches events found) (sym c.deref-2.ensures.value)
    c.in_ok-reaches.ensures in
    let seen = seen_intervals r events c.in_ok-intervals.intervals (c.in_ok-intervals.ensures events are) in
    c.in_ok-push_events.ensures
    ∙ ap (λ items. items ++ event_items r events)
    (c.in_ok-push_intervals.ensures
    ∙ ap (λ items. items ++ intervals_seen r c.in_ok-intervals.intervals)
    (c.in_ok-push_readings.ensures events also ∙ ap (λ items. items ++ readings) c.in_ok-items.ensures.items)
    ∙ ap (λ items. ([] ++ readings) ++ items) seen)
    ∙ joined readings (basic_items r basics) (for_each_channel r (short_item r) (shorts_of r basics))
    (for_each_channel r (ten_item r) tens) (for_each_channel r (two_hour_item r) (two_hours_of r tens))
    (event_items r events)
