use Rattle.std.proofs.Common.{refl, subst}
use Rattle.polyphase.specs.Poly.{PolyView, channel_window}
use Rattle.interval_ledger.specs.Watch.{Passes, WatchView}
use Rattle.interval_ledger.proofs.WatchLaws.{watch_passes}
use Rattle.interval_ledger.proofs.watch.Watch.pass.Goals as goal

-- the Poly has seen one more window, and the greatest ends stay
pub returns-clause-passed : goal.returns-clause-passed
returns-clause-passed c passed =
    let before = c.self.inside in
    let m = channel_window c.args.position c.args.window in
    let with_poly : PolyView → WatchView = λ poly. record {
      poly = poly;
      dip = before.dip;
      swell = before.swell;
      interruption = before.interruption;
    } in
    let old = with_poly before.poly in
    let new = with_poly c.pass.new.self in
    let said = c.pass.ensures in
    subst (λ (w : WatchView). Passes w new m) c.self.view_is
    (watch_passes old new m (said.passed passed) said.same said.limits refl refl refl)
