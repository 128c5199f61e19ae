use Rattle.std.proofs.Common.{◌*◌, ◌∙◌, ap, length, subst}
use Rattle.aggregate.specs.BasicOrder.{basic_of}
use Rattle.interval_ledger.specs.Known.{AddsBasic, KnownView}
use Rattle.interval_ledger.proofs.KnownStep.{basic_known}
use Rattle.interval_ledger.proofs.known.Known.add_basic.Goals as goal

-- the aggregator took the basic interval, and what it completed waits
pub returns-clause-value : goal.returns-clause-value
returns-clause-value c =
    let inside = c.self.inside in
    let old : KnownView = record {
      recording = inside.labels.recording.value;
      limits = inside.limits;
      watch = inside.watch;
      aggregator = inside.aggregator;
      outbox = inside.outbox;
    } in
    let b = basic_of c.args.front c.args.span c.args.values.now c.args.flagged in
    let said = c.step-out.ensures in
    let new : KnownView = record old {
      aggregator = c.step-out.new.self;
      outbox = c.push_completed.new.outbox;
    } in
    subst (λ (k : KnownView). AddsBasic k new b) c.self.view_is
    (basic_known old c.step-out.new.self c.reserve.new.self c.push_completed.new.outbox b c.step-out.result
    (4 * length inside.labels.recording.value.numbers) c.reserve.ensures.released c.reserve.ensures.pending
    said.value said.seen said.same (c.push_completed.ensures c.args.front))

pub returns-clause-same : goal.returns-clause-same
returns-clause-same c =
    (c.push_completed.ensures c.args.front).released_same
    ∙ c.reserve.ensures.released
    ∙ ap (λ (k : KnownView). k.outbox.released) c.self.view_is
