use Rattle.std.proofs.Common.{subst}
use Rattle.interval_ledger.specs.Known.{AddsReading, KnownView}
use Rattle.interval_ledger.proofs.KnownStep.{reading_known}
use Rattle.interval_ledger.proofs.known.Known.add_reading.Goals as goal

-- the reading waits, with the flag that the watch told
pub returns-clause-value : goal.returns-clause-value
returns-clause-value c =
    let inside = c.self.inside in
    let old : KnownView = record {
      recording = inside.labels.recording.value;
      limits = inside.limits;
      watch = inside.watch;
      aggregator = inside.aggregator;
      outbox = inside.outbox;
    } in
    let new : KnownView = record old { outbox = c.push_reading.new.outbox } in
    subst (λ (k : KnownView). AddsReading k new c.args.reading) c.self.view_is
    (reading_known old c.reserve.new.self c.push_reading.new.outbox c.args.reading c.touches-flagged.result
    c.reserve.ensures.released c.reserve.ensures.pending c.touches-flagged.ensures c.push_reading.ensures)
