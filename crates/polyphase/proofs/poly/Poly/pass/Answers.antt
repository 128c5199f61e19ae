-- Where a value and the one before it are within all thresholds, events begin as before: none does.
use Rattle.std.proofs.Common.{sym, subst}
use Rattle.polyphase.specs.Latest.{LatestView, BeginAlike}
use Rattle.polyphase.specs.Poly.{Passes, PolyView, channel_window, poly_view}
use Rattle.polyphase.proofs.PolyLaws.{idle_passes}
use Rattle.polyphase.proofs.poly.Poly.pass.Goals as goal

pub returns-then-self-clause-passed : goal.returns-then-self-clause-passed
returns-then-self-clause-passed c passed =
    let i = c.self.inside in
    let a = c.args in
    let m = channel_window a.position a.window in
    let put = c.put_calm.ensures.value passed in
    let alike = subst (BeginAlike i.latest) put (c.put_calm.ensures.begins passed) in
    let idle = c.self.invariant.idle c.if-self.true in
    let new = poly_view c.put_calm.new.self i.dips i.swells i.interruptions in
    let P : PolyView → Type 0 = λ p. Passes p new m in
    let Q : LatestView → Type 0 = λ l. Passes (poly_view i.latest i.dips i.swells i.interruptions)
    (poly_view l i.dips i.swells i.interruptions) m in
    subst P c.self.view_is
    (subst Q (sym put) (idle_passes i.latest i.dips i.swells i.interruptions a.position a.window idle alike))
