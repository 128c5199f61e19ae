use Rattle.std.proofs.Common.{◌≡◌, ◌∙◌, ap, subst, sym}
use Rattle.interval_ledger.specs.Known.{Ends, KnownView}
use Rattle.interval_ledger.proofs.KnownStep.{end_known}
use Rattle.pq_base.specs.Recorded.{sample_count}
use Rattle.interval_ledger.proofs.known.Known.finish.Goals as goal

-- the events that are left open wait, and everything is released
pub returns-clause-value : goal.returns-clause-value
returns-clause-value g c =
    let inside = c.self.inside in
    let old : KnownView = record {
      recording = inside.labels.recording.value;
      limits = inside.limits;
      watch = inside.watch;
      aggregator = inside.aggregator;
      outbox = inside.outbox;
    } in
    let n = c.args.n in
    let is_end : n ≡ sample_count old.recording =
    c.requires ∙ ap (λ (k : KnownView). sample_count k.recording) (sym c.self.view_is) in
    let new : KnownView = record old { watch = c.finish-left.new.self; outbox = c.release.new.self } in
    subst (λ (k : KnownView). Ends k new) c.self.view_is
    (end_known old c.finish-left.new.self n c.reserve.new.self c.push_events.new.outbox c.release.new.self
    c.finish-left.result is_end c.reserve.ensures.released c.reserve.ensures.pending
    c.finish-left.ensures.value c.push_events.ensures c.release.ensures.items)
