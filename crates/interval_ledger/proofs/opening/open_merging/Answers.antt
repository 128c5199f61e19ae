use Rattle.std.proofs.Common.{◌∙◌, length, ap, arith}
use Rattle.interval_ledger.specs.Opening.{empty_channels}
use Rattle.interval_ledger.proofs.FreshLaws.{IsFresh, fresh_ledger, fresh_nothing, merging_of, places_few}
use Rattle.pq_base.specs.Recorded.{sample_count}
use Rattle.pq_sequence.specs.MeasuredRecording.{tick_places}
use Rattle.interval_ledger.proofs.opening.open_merging.Goals as goal

-- there are few ticks
pub empty_channels-requires : goal.empty_channels-requires
empty_channels-requires c =
    let r = c.args.recording.now in
    let few = places_few r c.len.ensures.conditions in
    let long = ap length c.in_ok-places.ensures.value in
    let samples = ap (λ n. length (tick_places c.clock_of.result n)) c.len.ensures.value in
    let clock = ap (λ clock. length (tick_places clock (sample_count r))) c.clock_of.ensures.value in
    omega (arith, few, long, samples, clock)

-- nothing is posted or known, and there is room
fresh : (c : goal.After-new) → IsFresh c.args.recording.now c.args.limits.now
    (merging_of c.len-3.result c.in_ok-channels.channels c.in_ok-readings.readings c.new.result
    c.in_ok-known.known)
fresh c =
    let r = c.args.recording.now in
    let places = c.in_ok-places.ensures.value
    ∙ ap (tick_places c.clock_of.result) c.len.ensures.value
    ∙ ap (λ clock. tick_places clock (sample_count r)) c.clock_of.ensures.value in
    record {
      given = c.len.ensures.conditions;
      ordered = c.requires;
      samples_are = c.len-3.ensures.value;
      channels_are = c.in_ok-channels.ensures
          ∙ ap (empty_channels r) (c.len-2.ensures ∙ c.in_ok-places.places.ok.0 ∙ ap length places);
      readings_are = c.in_ok-readings.ensures;
      places = ap (λ s. s.places) c.new.ensures ∙ places;
      before = ap (λ s. s.before) c.new.ensures;
      known = c.in_ok-known.ensures;
    }

pub returns-clause-ledger : goal.returns-clause-ledger
returns-clause-ledger c =
    fresh_ledger c.len-3.result c.in_ok-channels.channels c.in_ok-readings.readings c.new.result
    c.in_ok-known.known c.args.recording.now c.args.limits.now (fresh c)

pub returns-clause-value : goal.returns-clause-value
returns-clause-value c =
    fresh_nothing c.len-3.result c.in_ok-channels.channels c.in_ok-readings.readings c.new.result
    c.in_ok-known.known c.args.recording.now c.args.limits.now (fresh c)
