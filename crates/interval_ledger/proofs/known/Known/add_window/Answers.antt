use Rattle.std.proofs.Common.{subst}
use Rattle.interval_ledger.specs.Known.{AddsWindow, KnownView}
use Rattle.interval_ledger.specs.Watch.{WatchView}
use Rattle.interval_ledger.proofs.KnownStep.{passed_known, window_known}
use Rattle.polyphase.specs.Poly.{channel_window}
use Rattle.interval_ledger.proofs.known.Known.add_window.Goals as goal

-- the watch took the window, which ended no event
pub returns-then-pass-clause-value : goal.returns-then-pass-clause-value
returns-then-pass-clause-value c =
    let inside = c.self.inside in
    let old : KnownView = record {
      recording = inside.labels.recording.value;
      limits = inside.limits;
      watch = inside.watch;
      aggregator = inside.aggregator;
      outbox = inside.outbox;
    } in
    let x = channel_window c.args.position c.args.window in
    let said = c.pass.ensures in
    let new : KnownView = record old { watch = c.pass.new.self } in
    subst (λ (k : KnownView). AddsWindow k new x) c.self.view_is
    (passed_known old c.pass.new.self x (said.passed c.if-pass.true) said.setting)

-- the watch took the window, and the events that it ended wait
pub returns-clause-value : goal.returns-clause-value
returns-clause-value c =
    let inside = c.self.inside in
    let with_watch : WatchView → KnownView = λ watch. record {
      recording = inside.labels.recording.value;
      limits = inside.limits;
      watch = watch;
      aggregator = inside.aggregator;
      outbox = inside.outbox;
    } in
    let old = with_watch c.pass.new.self in
    let x = channel_window c.args.position c.args.window in
    let said = c.step-ended.ensures in
    let new : KnownView = record old { watch = c.step-ended.new.self; outbox = c.push_events.new.outbox } in
    subst (λ (k : KnownView). AddsWindow k new x) c.self.view_is
    (subst (λ (w : WatchView). AddsWindow (with_watch w) new x) (c.pass.ensures.rest c.if-pass.false)
    (window_known old c.step-ended.new.self c.reserve.new.self c.push_events.new.outbox x c.step-ended.result
    c.reserve.ensures.released c.reserve.ensures.pending said.value said.seen said.setting
    c.push_events.ensures))
