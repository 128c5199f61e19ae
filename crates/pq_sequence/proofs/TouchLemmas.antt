-- Reaches: those of events in the order of their beginnings, those of events in any order, and what the last
-- one before a place tells.
use Rattle.std.proofs.Common.{◌≡◌, ℕ, zero, suc, ◌-◌, ◌<◌, ◌≤◌, max, Bool, true, false, ◌&&◌, ◌||◌, List, [], ◌∷◌, length, get_or, All, sym, ◌∙◌, ap, refl, inl, inr, arith}
use Rattle.std.specs.Prelude.{nat_lt}
use Rattle.std.specs.List.{list_any}
use Rattle.std.specs.List.Sorted.{IsNonDecreasingBy, IsPartitionPoint, IsPermutation}
use Rattle.std.proofs.lemmas.Bool.{and_from, and_left, and_right, cases_lt, le-ltb, ltb-false}
use Rattle.std.proofs.lemmas.Bool.Decides.{nat_tests}
use Rattle.std.proofs.lemmas.List.Elements.{All-cons, All-from_get_or, All-nil, All-weaker}
use Rattle.std.proofs.lemmas.List.Folds.{list_any_at, list_any_none}
use Rattle.std.proofs.lemmas.List.Sorted.{IsNonDecreasingBy-short, list_any-IsPermutation}
use Rattle.event_detect.specs.Flag.{is_touched, overlaps}
use Rattle.event_detect.specs.declared.event.Event.{Event}
use Rattle.pq_sequence.specs.Touches.{AreReaches, is_reached}
use Rattle.pq_sequence.specs.declared.touches.Reach.{Reach}

-- the reaches of events, where those before them reach up to `far`
abbrev pub carried : ℕ → List Event → List Reach
carried far [] = []
carried far (event ∷ events) =
    let further = max event.end far in
    record { start = event.start; furthest = further } ∷ carried further events

-- ---- they rise

rises : {X : Type 0} (n : X → ℕ) (x : X) (xs : List X) → All (λ y. n x ≤ n y) xs → IsNonDecreasingBy n xs →
    IsNonDecreasingBy n (x ∷ xs)
rises n x xs above rest zero zero d from inside = omega arith
rises n x xs above rest zero (suc j) d from inside = above j d (omega (arith, inside))
rises n x xs above rest (suc i) zero d from inside = absurd (omega (arith, from))
rises n x xs above rest (suc i) (suc j) d from inside =
    rest i j d (omega (arith, from)) (omega (arith, inside))

-- what is true of a list that does not fall is true of the rest of it
rest_rises : {X : Type 0} (n : X → ℕ) (x : X) (xs : List X) → IsNonDecreasingBy n (x ∷ xs) →
    IsNonDecreasingBy n xs
rest_rises n x xs h i j d from inside = h (suc i) (suc j) d (omega (arith, from)) (omega (arith, inside))

first_least : {X : Type 0} (n : X → ℕ) (x : X) (xs : List X) → IsNonDecreasingBy n (x ∷ xs) →
    All (λ y. n x ≤ n y) xs
first_least n x xs h k d inside = h 0 (suc k) d (omega arith) (omega (arith, inside))

begin_above : (low far : ℕ) (events : List Event) → All (λ event. low ≤ event.start) events →
    All (λ reach. low ≤ reach.start) (carried far events)
begin_above low far [] above k d inside = absurd (omega (arith, inside))
begin_above low far (event ∷ events) above zero d inside = above 0 event (omega arith)
begin_above low far (event ∷ events) above (suc k) d inside =
    begin_above low (max event.end far) events (λ j e there. above (suc j) e (omega (arith, there))) k d
    (omega (arith, inside))

beginnings_rise : (far : ℕ) (events : List Event) → IsNonDecreasingBy (λ event. event.start) events →
    IsNonDecreasingBy (λ reach. reach.start) (carried far events)
beginnings_rise far [] h = IsNonDecreasingBy-short (λ reach. reach.start) [] (omega arith)
beginnings_rise far (event ∷ events) h =
    let further = max event.end far in
    rises (λ reach. reach.start) _ (carried further events)
    (begin_above event.start further events (first_least (λ event. event.start) event events h))
    (beginnings_rise further events (rest_rises (λ event. event.start) event events h))

end_above : (far : ℕ) (events : List Event) → All (λ reach. far ≤ reach.furthest) (carried far events)
end_above far [] = All-nil (λ reach. far ≤ reach.furthest)
end_above far (event ∷ events) =
    let further = max event.end far in
    All-cons (λ reach. far ≤ reach.furthest) _ (carried further events) (omega arith)
    (All-weaker (λ reach. further ≤ reach.furthest) (λ reach. far ≤ reach.furthest)
    (λ reach h. omega (arith, h)) (carried further events) (end_above further events))

ends_rise : (far : ℕ) (events : List Event) → IsNonDecreasingBy (λ reach. reach.furthest) (carried far events)
ends_rise far [] = IsNonDecreasingBy-short (λ reach. reach.furthest) [] (omega arith)
ends_rise far (event ∷ events) =
    let further = max event.end far in
    rises (λ reach. reach.furthest) _ (carried further events) (end_above further events)
    (ends_rise further events)

-- ---- they tell what the events touch

-- some event begins before a place
abbrev begins_before : ℕ → List Event → Bool
begins_before place events = list_any (λ event. nat_lt event.start place) events

past_further : (a b place : ℕ) → nat_lt place (max a b) ≡ (nat_lt place a || nat_lt place b)
past_further a b place = grind (arith, nat_tests)

at_or_after : (a b place : ℕ) → a ≤ b → nat_lt a place ≡ false → nat_lt b place ≡ false
at_or_after a b place h is = le-ltb b place (let past = ltb-false a place is in omega (arith, h, past))

past_neither : (a b place : ℕ) → a ≤ b → nat_lt place b ≡ false → nat_lt place a ≡ false
past_neither a b place h is = le-ltb place a (let past = ltb-false place b is in omega (arith, h, past))

-- whether this event begins before the end of a span, and a later one does; whether this one ends past its
-- start, and an earlier one does
one_further : (begins later ends far rest : Bool) → (begins ≡ false → later ≡ false)
    → ((begins && (ends || far)) || (((ends || far) && later) || rest))
    ≡ ((far && (begins || later)) || ((begins && ends) || rest))
one_further true later true true rest h = refl
one_further true later true false rest h = refl
one_further true later false true rest h = refl
one_further true later false false rest h = refl
one_further false true ends far rest h = absurd (let is : true ≡ false = h refl in let bad : ⊥ = cc in bad)
one_further false false true true rest h = refl
one_further false false true false rest h = refl
one_further false false false true rest h = refl
one_further false false false false rest h = refl

-- what the reaches tell: these events touch the span, or events before them reach past its start, and one of
-- these begins before its end
tell : (far start end : ℕ) (events : List Event) → IsNonDecreasingBy (λ event. event.start) events
    → is_reached (carried far events) start end ≡ ((nat_lt start far && begins_before end events) ||
    is_touched events start end)
unfolding is_touched
tell far start end [] h = grind (arith, nat_tests)
tell far start end (event ∷ events) h =
    let further = max event.end far in
    let begins = nat_lt event.start end in
    let touched = is_touched events start end in
    let none_later : begins ≡ false → begins_before end events ≡ false = λ is.
    list_any_none (λ event. nat_lt event.start end) events
    (λ k d inside. at_or_after event.start (get_or events k d).start end
    (first_least (λ event. event.start) event events h k d inside) is) in
    ap (λ later. (begins && nat_lt start further) || later)
    (tell further start end events (rest_rises (λ event. event.start) event events h))
    ∙ ap (λ past. (begins && past) || ((past && begins_before end events) || touched))
    (past_further event.end far start)
    ∙ one_further begins (begins_before end events) (nat_lt start event.end) (nat_lt start far) touched
    none_later

none_before_zero : (start : ℕ) (b touched : Bool) → ((nat_lt start 0 && b) || touched) ≡ touched
none_before_zero start b touched = ap (λ past. (past && b) || touched) (le-ltb start 0 (omega arith))

-- events in the order of their beginnings have these reaches
pub carried_reaches : (events : List Event) → IsNonDecreasingBy (λ event. event.start) events →
    AreReaches events (carried 0 events)
carried_reaches events h = record {
  beginnings = beginnings_rise 0 events h;
  ends = ends_rise 0 events;
  tells = λ start end. tell 0 start end events h ∙ none_before_zero start (begins_before end events)
      (is_touched events start end);
}

-- events in another order have the same reaches
pub reaches_permuted : (events sorted : List Event) (reaches : List Reach) → IsPermutation events sorted →
    AreReaches sorted reaches → AreReaches events reaches
unfolding is_touched
reaches_permuted events sorted reaches permuted are = record {
  beginnings = are.beginnings;
  ends = are.ends;
  tells = λ start end. are.tells start end ∙ sym (list_any-IsPermutation (λ event. overlaps event start end)
      events sorted permuted);
}

-- ---- the last reach that begins before a place

-- those that begin before a place, and then those that do not
abbrev pub AreParted : ℕ → List Reach → ℕ → Type 0
AreParted place reaches count = IsPartitionPoint (λ reach. nat_lt reach.start place ≡ true)
    (λ reach. nat_lt reach.start place ≡ false) reaches count

module _ (reaches : List Reach) (start end count : ℕ) (parted : AreParted end reaches count) where
  -- it tells which spans are reached, since none of those before it reaches further
  pub last_tells : (d : Reach) → count ≤ length reaches → IsNonDecreasingBy (λ reach. reach.furthest) reaches
      → 0 < count
      → nat_lt start (get_or reaches (count - 1) d).furthest ≡ is_reached reaches start end
  last_tells d bound ends some = at (nat_lt start last) refl
    where
      last : ℕ
      last = (get_or reaches (count - 1) d).furthest

      reached : Reach → Bool
      reached reach = nat_lt reach.start end && nat_lt start reach.furthest

      not_past : (k : ℕ) → k < count → nat_lt start last ≡ false → nat_lt start (get_or reaches k d).furthest
          ≡ false
      not_past k before is = past_neither (get_or reaches k d).furthest last start
          (ends k (count - 1) d (omega (arith, before)) (omega (arith, bound, some))) is

      at : (b : Bool) → nat_lt start last ≡ b → b ≡ is_reached reaches start end
      at true is =
          sym (list_any_at reached reaches (count - 1) d (omega (arith, bound, some))
          (and_from _ _ (parted.0 (count - 1) d (omega arith) (omega (arith, some))) is))
      at false is =
          sym (list_any_none reached reaches (All-from_get_or (λ reach. reached reach ≡ false) reaches d
          (λ k inside. elim (cases_lt k count) [
            | inl before ↦ and_right _ _ (not_past k before is)
            | inr after ↦ and_left _ _ (parted.1 k d after inside)
          ])))

  -- where there is none, no span is reached
  pub none_tells : count ≤ 0 → nat_lt 0 count ≡ is_reached reaches start end
  none_tells none =
      le-ltb 0 count none
      ∙ sym (list_any_none (λ reach. nat_lt reach.start end && nat_lt start reach.furthest) reaches
      (λ k d inside. and_left _ _ (parted.1 k d (omega (arith, none)) inside)))
