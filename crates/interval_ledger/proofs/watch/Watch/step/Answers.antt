use Rattle.std.proofs.Common.{refl, subst}
use Rattle.interval_ledger.specs.Watch.{SeesMore, WatchView}
use Rattle.interval_ledger.proofs.WatchLaws.{watch_more}
use Rattle.polyphase.specs.Poly.{PolyView, channel_window}
use Rattle.interval_ledger.proofs.watch.Watch.step.Goals as goal

-- the Poly has seen one more window, and the greatest ends have gone on
pub returns-clause-seen : goal.returns-clause-seen
returns-clause-seen c =
    let before = c.self.inside in
    let m = channel_window c.args.position c.args.window in
    let with_poly : PolyView → WatchView = λ poly. record {
      poly = poly;
      dip = before.dip;
      swell = before.swell;
      interruption = before.interruption;
    } in
    let old = with_poly before.poly in
    let mid = with_poly c.step-ended.new.self in
    let said = c.step-ended.ensures in
    subst (λ (w : WatchView). SeesMore w c.note.new.self m) c.self.view_is
    (watch_more old mid c.note.new.self m c.step-ended.result said.value said.seen said.same said.limits
    refl refl refl c.note.ensures.ends c.note.ensures.same)
