use Rattle.std.proofs.Common.{subst}
use Rattle.interval_ledger.specs.Known.{KnownView, MovesMark}
use Rattle.interval_ledger.proofs.KnownStep.{mark_known}
use Rattle.interval_ledger.proofs.known.Known.release.Goals as goal

-- what is due is released
pub returns-clause-value : goal.returns-clause-value
returns-clause-value g c =
    let inside = c.self.inside in
    let old : KnownView = record {
      recording = inside.labels.recording.value;
      limits = inside.limits;
      watch = inside.watch;
      aggregator = inside.aggregator;
      outbox = inside.outbox;
    } in
    let new : KnownView = record old { outbox = c.release.new.self } in
    subst (λ (k : KnownView). MovesMark c.args.w k new) c.self.view_is
    (mark_known old c.release.new.self c.args.w c.release.ensures.items)
