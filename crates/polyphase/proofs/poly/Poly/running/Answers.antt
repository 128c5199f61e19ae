-- The start of what runs is that of the event that is left open.
use Rattle.std.proofs.Common.{◌≡◌, ℕ, Option, sym, ap, subst, refl}
use Rattle.event_detect.specs.declared.kind.Kind.TheVariants.{Dip, Swell, Interruption}
use Rattle.event_detect.specs.declared.kind.Kind.{Kind}
use Rattle.event_detect.specs.Detector.{Watch, StartsOpen as StartsOpenOfKind}
use Rattle.polyphase.specs.Latest.{LatestView}
use Rattle.polyphase.specs.Poly.{IsPoly, PolyView, StartsOpen, poly_view, watch_of}
use Rattle.polyphase.proofs.PolyLaws.{starts_open}
use Rattle.polyphase.proofs.poly.Poly.running.Goals as goal

-- the detector of a kind tells it of the kind
of_kind : (p : PolyView) (found kind : Kind) (d : Watch) (answer : Option ℕ) → d ≡ watch_of p found
    → kind ≡ found
    → StartsOpenOfKind d answer → StartsOpen p kind answer
of_kind p found kind d answer is kind_is starts =
    let P : Watch → Type 0 = λ w. StartsOpenOfKind w answer in
    let Q : Kind → Type 0 = λ k. StartsOpen p k answer in
    subst Q (sym kind_is) (starts_open p found answer (subst P is starts))

pub returns-in-Dip-clause-start : goal.returns-in-Dip-clause-start
returns-in-Dip-clause-start c =
    let i = c.self.inside in
    let whole : Kind → Watch = λ k. record { kind = k; running = i.dips.running } in
    of_kind c.args.self.now Dip c.args.kind i.dips c.running.result
    (subst (λ p. i.dips ≡ watch_of p Dip) c.self.view_is (ap whole c.self.invariant.dips_kind))
    c.in-Dip.is c.running.ensures.start

pub returns-in-Swell-clause-start : goal.returns-in-Swell-clause-start
returns-in-Swell-clause-start c =
    let i = c.self.inside in
    let whole : Kind → Watch = λ k. record { kind = k; running = i.swells.running } in
    of_kind c.args.self.now Swell c.args.kind i.swells c.running-in-Swell.result
    (subst (λ p. i.swells ≡ watch_of p Swell) c.self.view_is (ap whole c.self.invariant.swells_kind))
    c.in-Swell.is c.running-in-Swell.ensures.start

pub returns-in-Interruption-clause-start : goal.returns-in-Interruption-clause-start
returns-in-Interruption-clause-start c =
    let i = c.self.inside in
    let whole : Kind → Watch = λ k. record { kind = k; running = i.interruptions.running } in
    of_kind c.args.self.now Interruption c.args.kind i.interruptions c.running-in-Interruption.result
    (subst (λ p. i.interruptions ≡ watch_of p Interruption) c.self.view_is
    (ap whole c.self.invariant.interruptions_kind))
    c.in-Interruption.is c.running-in-Interruption.ensures.start
