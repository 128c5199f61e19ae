-- Each detector gives the event that it leaves open, and nothing is left of values and events.
use Rattle.std.proofs.Common.{◌≡◌, ◌∙◌, ℕ, [], ◌∷◌, sym, ap, subst, length, Option}
use Rattle.event_detect.specs.declared.event.Event.{Event}
use Rattle.event_detect.specs.declared.kind.Kind.{Kind}
use Rattle.event_detect.specs.declared.kind.Kind.TheVariants.{Dip, Swell, Interruption}
use Rattle.event_detect.specs.Detector.{Watch, LeavesOpen as LeavesOpenOfKind}
use Rattle.polyphase.specs.Latest.{LatestView}
use Rattle.polyphase.specs.Poly.{HasSeen, LeavesOpen, PolyView, poly_view, watch_of}
use Rattle.polyphase.proofs.PolyLaws.{watch, all_left, nothing_seen}
use Rattle.polyphase.proofs.poly.Poly.finish.Goals as goal

of_kind : (d : Watch) (kind : Kind) (n : ℕ) (answer : Option Event) → d.kind ≡ kind
    → LeavesOpenOfKind d n answer
    → LeavesOpenOfKind (watch kind d.running) n answer
of_kind d kind n answer is leaves =
    let P : Kind → Type 0 = λ k. LeavesOpenOfKind (watch k d.running) n answer in subst P is leaves

pub returns-clause-value : goal.returns-clause-value
returns-clause-value c =
    let i = c.self.inside in
    let n = c.args.n in
    let P : PolyView → Type 0 = λ p. LeavesOpen p n
    (c.finish.result ∷ c.finish-2.result ∷ c.finish-3.result ∷ []) in
    subst P c.self.view_is
    (all_left (poly_view i.latest i.dips i.swells i.interruptions) n c.finish.result c.finish-2.result
    c.finish-3.result
    (of_kind i.dips Dip n c.finish.result c.self.invariant.dips_kind c.finish.ensures.value)
    (of_kind i.swells Swell n c.finish-2.result c.self.invariant.swells_kind c.finish-2.ensures.value)
    (of_kind i.interruptions Interruption n c.finish-3.result c.self.invariant.interruptions_kind
    c.finish-3.ensures.value))

pub returns-clause-seen : goal.returns-clause-seen
returns-clause-seen c =
    let i = c.self.inside in
    let d = c.finish.new.self in
    let s = c.finish-2.new.self in
    let r = c.finish-3.new.self in
    let P : LatestView → Type 0 = λ l. HasSeen (poly_view l d s r) [] in
    subst P (sym c.clear.ensures)
    (nothing_seen (length i.latest.values) i.latest.limits d s r
    (c.finish.ensures.same ∙ c.self.invariant.dips_kind)
    (c.finish-2.ensures.same ∙ c.self.invariant.swells_kind)
    (c.finish-3.ensures.same ∙ c.self.invariant.interruptions_kind)
    c.finish.ensures.seen c.finish-2.ensures.seen c.finish-3.ensures.seen)
