use Rattle.std.proofs.Common.{◌≡◌, true, false, List, [], ◌∷◌, ◌++◌, refl, sym, ◌∙◌, subst, lit≤}
use Rattle.ten_twelve.specs.declared.span.Span.{Span}
use Rattle.ten_twelve.specs.Chopper.{ChopperView, IsFed, HasSeen, MayFollow, SeesMore, element_of}
use Rattle.ten_twelve.specs.Run.{Element, marked, pending_runs}
use Rattle.pq_words.specs.Steps.{numbers_from}
use Rattle.ten_twelve.proofs.tests.run_over_a_front.Goals as goal

-- the element may follow what a chopper of runs of two has seen
may : (c : ChopperView) (fed : List Element) (e : Element) → c.length ≡ 2 → HasSeen c fed →
    IsFed 2 (fed ++ e ∷ []) → MayFollow c e
may c fed e two seen fits = (fed, seen, subst (λ n. IsFed n (fed ++ e ∷ [])) (sym two) fits)

-- and has then been seen
then : (c next : ChopperView) (fed : List Element) (e : Element) → c.length ≡ 2 → HasSeen c fed →
    IsFed 2 (fed ++ e ∷ []) → SeesMore c next e → HasSeen next (fed ++ e ∷ [])
then c next fed e two seen fits more = more fed seen (subst (λ n. IsFed n (fed ++ e ∷ [])) (sym two) fits)

-- the elements that are fed, one after another
abbrev one : Span → List Element
one a = element_of true a ∷ []

abbrev two : Span → Span → List Element
two a b = element_of true a ∷ element_of false b ∷ []

abbrev three : Span → Span → Span → List Element
three a b d = element_of true a ∷ element_of false b ∷ element_of false d ∷ []

abbrev four : Span → Span → Span → Span → List Element
four a b d e = element_of true a ∷ element_of false b ∷ element_of false d ∷ element_of true e ∷ []

-- each may be fed
fits : (a b d e f : Span) → IsFed 2 (one a) × IsFed 2 (two a b) × IsFed 2 (three a b d) ×
    IsFed 2 (four a b d e) × IsFed 2 (four a b d e ++ element_of false f ∷ [])
unfolding pending_runs marked numbers_from
fits a b d e f = (
  record { first = refl; few = lit≤ tt },
  record { first = refl; few = lit≤ tt },
  record { first = refl; few = lit≤ tt },
  record { first = refl; few = lit≤ tt },
  record { first = refl; few = lit≤ tt },
)

pub push-begun-requires : goal.push-begun-requires
push-begun-requires g c =
    let a = c.span.result in
    may c.new-chopper.result [] (element_of true a) c.new-chopper.ensures.length c.new-chopper.ensures.value
    (fits a a a a a).0

pub push-whole-requires : goal.push-whole-requires
push-whole-requires g c =
    let a = c.span.result in
    let b = c.span-2.result in
    let length0 = c.new-chopper.ensures.length in
    let seen1 = then c.new-chopper.result c.push-begun.new.self [] (element_of true a) length0
    c.new-chopper.ensures.value (fits a a a a a).0 c.push-begun.ensures.seen in
    may c.push-begun.new.self (one a) (element_of false b) (c.push-begun.ensures.same ∙ length0) seen1
    (fits a b a a a).1

pub push-at_front-requires : goal.push-at_front-requires
push-at_front-requires g c =
    let a = c.span.result in
    let b = c.span-2.result in
    let d = c.span-3.result in
    let length0 = c.new-chopper.ensures.length in
    let length1 = c.push-begun.ensures.same ∙ length0 in
    let seen1 = then c.new-chopper.result c.push-begun.new.self [] (element_of true a) length0
    c.new-chopper.ensures.value (fits a a a a a).0 c.push-begun.ensures.seen in
    let seen2 = then c.push-begun.new.self c.push-whole.new.self (one a) (element_of false b) length1 seen1
    (fits a b a a a).1 c.push-whole.ensures.seen in
    may c.push-whole.new.self (two a b) (element_of false d) (c.push-whole.ensures.same ∙ length1) seen2
    (fits a b d a a).2

pub push-over_front-requires : goal.push-over_front-requires
push-over_front-requires g c =
    let a = c.span.result in
    let b = c.span-2.result in
    let d = c.span-3.result in
    let e = c.span-4.result in
    let length0 = c.new-chopper.ensures.length in
    let length1 = c.push-begun.ensures.same ∙ length0 in
    let length2 = c.push-whole.ensures.same ∙ length1 in
    let seen1 = then c.new-chopper.result c.push-begun.new.self [] (element_of true a) length0
    c.new-chopper.ensures.value (fits a a a a a).0 c.push-begun.ensures.seen in
    let seen2 = then c.push-begun.new.self c.push-whole.new.self (one a) (element_of false b) length1 seen1
    (fits a b a a a).1 c.push-whole.ensures.seen in
    let seen3 = then c.push-whole.new.self c.push-at_front.new.self (two a b) (element_of false d) length2
    seen2 (fits a b d a a).2 c.push-at_front.ensures.seen in
    may c.push-at_front.new.self (three a b d) (element_of true e) (c.push-at_front.ensures.same ∙ length2)
    seen3 (fits a b d e a).3

pub push-behind-requires : goal.push-behind-requires
push-behind-requires g c =
    let a = c.span.result in
    let b = c.span-2.result in
    let d = c.span-3.result in
    let e = c.span-4.result in
    let f = c.span-5.result in
    let length0 = c.new-chopper.ensures.length in
    let length1 = c.push-begun.ensures.same ∙ length0 in
    let length2 = c.push-whole.ensures.same ∙ length1 in
    let length3 = c.push-at_front.ensures.same ∙ length2 in
    let seen1 = then c.new-chopper.result c.push-begun.new.self [] (element_of true a) length0
    c.new-chopper.ensures.value (fits a a a a a).0 c.push-begun.ensures.seen in
    let seen2 = then c.push-begun.new.self c.push-whole.new.self (one a) (element_of false b) length1 seen1
    (fits a b a a a).1 c.push-whole.ensures.seen in
    let seen3 = then c.push-whole.new.self c.push-at_front.new.self (two a b) (element_of false d) length2
    seen2 (fits a b d a a).2 c.push-at_front.ensures.seen in
    let seen4 = then c.push-at_front.new.self c.push-over_front.new.self (three a b d) (element_of true e)
    length3 seen3 (fits a b d e a).3 c.push-over_front.ensures.seen in
    may c.push-over_front.new.self (four a b d e) (element_of false f)
    (c.push-over_front.ensures.same ∙ length3) seen4 (fits a b d e f).4
