-- The detector of each kind is told what the latest values tell.
use Rattle.std.proofs.Common.{◌≡◌, ◌∙◌, ℕ, [], ◌∷◌, refl, sym, ap, subst, length, length-set, set, Some, Option}
use Rattle.event_detect.specs.declared.event.Event.{Event}
use Rattle.event_detect.specs.declared.kind.Kind.{Kind}
use Rattle.event_detect.specs.declared.kind.Kind.TheVariants.{Dip, Swell, Interruption}
use Rattle.event_detect.specs.declared.window.Window.{Window}
use Rattle.event_detect.specs.Detector.{Watch, Ends as EndsOfKind, SeesMore as SeesMoreOfKind}
use Rattle.polyphase.specs.Latest.{LatestView, with_value}
use Rattle.polyphase.specs.Poly.{Ends, SeesMore, PolyView, channel_window, condition_of, poly_view, watch_of}
use Rattle.polyphase.proofs.PolyLaws.{watch, all_end, all_see}
use Rattle.polyphase.proofs.poly.Poly.ask_all.Goals as goal

ends : (d : Watch) (kind : Kind) (before now : LatestView) (position : ℕ) (window : Window)
    (answer : Option Event)
    → d.kind ≡ kind → now ≡ with_value before position window.value
    → EndsOfKind d (condition_of now position window kind) answer
    → EndsOfKind (watch kind d.running)
    (condition_of (with_value before position window.value) position window kind) answer
ends d kind before now position window answer is put given =
    let P : Kind → Type 0 = λ k. EndsOfKind (watch k d.running)
    (condition_of (with_value before position window.value) position window kind) answer in
    subst P is (subst (λ l. EndsOfKind d (condition_of l position window kind) answer) put given)

sees : (d e : Watch) (kind : Kind) (before now : LatestView) (position : ℕ) (window : Window)
    → d.kind ≡ kind → e.kind ≡ d.kind → now ≡ with_value before position window.value
    → SeesMoreOfKind d e (condition_of now position window kind)
    → SeesMoreOfKind (watch kind d.running) (watch kind e.running)
    (condition_of (with_value before position window.value) position window kind)
sees d e kind before now position window is same put given =
    let condition = condition_of (with_value before position window.value) position window kind in
    let P : Kind → Type 0 = λ k. SeesMoreOfKind (watch k d.running) e condition in
    let Q : Kind → Type 0 = λ k. SeesMoreOfKind (watch kind d.running) (watch k e.running) condition in
    subst Q (same ∙ is) (subst P is
    (subst (λ l. SeesMoreOfKind d e (condition_of l position window kind)) put given))

pub returns-clause-value : goal.returns-clause-value
returns-clause-value c =
    let i = c.self.inside in
    let a = c.args in
    let now = c.put.new.self in
    let P : PolyView → Type 0 = λ p. Ends p (channel_window a.position a.window)
    (c.step-dip.result ∷ c.step-swell.result ∷ c.step-interruption.result ∷ []) in
    subst P c.self.view_is
    (all_end (poly_view i.latest i.dips i.swells i.interruptions) (channel_window a.position a.window)
    c.step-dip.result c.step-swell.result c.step-interruption.result
    (ends i.dips Dip i.latest now a.position a.window c.step-dip.result c.self.invariant.dips_kind
    c.put.ensures c.step-dip.ensures.value)
    (ends i.swells Swell i.latest now a.position a.window c.step-swell.result c.self.invariant.swells_kind
    c.put.ensures c.step-swell.ensures.value)
    (ends i.interruptions Interruption i.latest now a.position a.window c.step-interruption.result
    c.self.invariant.interruptions_kind c.put.ensures c.step-interruption.ensures.value))

pub returns-clause-seen : goal.returns-clause-seen
returns-clause-seen c =
    let i = c.self.inside in
    let a = c.args in
    let now = c.put.new.self in
    let d = c.step-dip.new.detector in
    let s = c.step-swell.new.detector in
    let r = c.step-interruption.new.detector in
    let m = channel_window a.position a.window in
    let old = poly_view i.latest i.dips i.swells i.interruptions in
    let new = poly_view (with_value i.latest a.position a.window.value) d s r in
    let each : (kind : Kind) → SeesMoreOfKind (watch_of old kind) (watch_of new kind)
    (condition_of (with_value i.latest a.position a.window.value) a.position a.window kind) =
    λ kind. elim kind as (λ k. SeesMoreOfKind (watch_of old k) (watch_of new k)
    (condition_of (with_value i.latest a.position a.window.value) a.position a.window k)) [
      | Dip ↦ sees i.dips d Dip i.latest now a.position a.window c.self.invariant.dips_kind
          c.step-dip.ensures.same c.put.ensures c.step-dip.ensures.seen
      | Swell ↦ sees i.swells s Swell i.latest now a.position a.window c.self.invariant.swells_kind
          c.step-swell.ensures.same c.put.ensures c.step-swell.ensures.seen
      | Interruption ↦ sees i.interruptions r Interruption i.latest now a.position a.window
          c.self.invariant.interruptions_kind c.step-interruption.ensures.same c.put.ensures
          c.step-interruption.ensures.seen
    ] in
    let P : PolyView → Type 0 = λ p. SeesMore p new m in
    let Q : LatestView → Type 0 = λ l. SeesMore c.args.self.now (poly_view l d s r) m in
    subst Q (sym c.put.ensures)
    (subst P c.self.view_is
    (all_see old new m (length-set i.latest.values a.position (Some a.window.value)) refl refl each))
