-- Basic intervals in order: each with the one before it, and the ticks between their starts.
use Rattle.std.proofs.Common.{◌≡◌, ℕ, zero, suc, ◌+◌, ◌<◌, ◌≤◌, List, [], ◌∷◌, ◌++◌, length, get_or, ℤ, pos, ◌+ℤ◌, ◌≤ℤ◌, Some, slice_get, Contains, refl, sym, ◌∙◌, ap, inl, inr, arith}
use Rattle.std.specs.Bool.{⊤}
use Rattle.std.specs.List.{AllByRecursion}
use Rattle.std.proofs.lemmas.Int.{ints}
use Rattle.pq_time.specs.declared.clock.Clock.{Clock}
use Rattle.pq_time.specs.Tick.{moment_of, tick_place, ticks}
use Rattle.pq_time.proofs.PlaceLaws.{place_rises}
use Rattle.aggregate.specs.Aggregation.{Basic}
use Rattle.aggregate.specs.BasicOrder.{Follows}
use Rattle.aggregate.proofs.PairLaws.{IsAmong, PlacesRise}
use Rattle.pq_words.specs.Steps.{steps_from}

-- ---- each follows the one before it

abbrev pub FollowFrom : Clock → ℕ → Basic → List Basic → Type 0
FollowFrom clock n a [] = ⊤
FollowFrom clock n a (b ∷ bs) = Follows clock n a b × FollowFrom clock n b bs

abbrev pub AreLinked : Clock → ℕ → List Basic → Type 0
AreLinked clock n [] = ⊤
AreLinked clock n (b ∷ bs) = FollowFrom clock n b bs

follow_from : (clock : Clock) (n : ℕ) (a : Basic) (bs : List Basic) → ((i : ℕ) (x y : Basic)
    → slice_get (a ∷ bs) i ≡ Some x → slice_get (a ∷ bs) (i + 1) ≡ Some y → Follows clock n x y)
    → FollowFrom clock n a bs
follow_from clock n a [] h = tt
follow_from clock n a (b ∷ bs) h = (
  h 0 a b refl refl,
  follow_from clock n b bs (λ i x y at next.
      let step : suc i + 1 ≡ suc (i + 1) = omega arith in
      h (suc i) x y at (ap (slice_get (a ∷ b ∷ bs)) step ∙ next)),
)

pub linked : (clock : Clock) (n : ℕ) (bs : List Basic) → ((i : ℕ) (x y : Basic)
    → slice_get bs i ≡ Some x → slice_get bs (i + 1) ≡ Some y → Follows clock n x y) → AreLinked clock n bs
linked clock n [] h = tt
linked clock n (b ∷ bs) h = follow_from clock n b bs h

-- those after one of them
pub follow_after : (clock : Clock) (n : ℕ) (xs : List Basic) (f : Basic) (rest : List Basic)
    → AreLinked clock n (xs ++ f ∷ rest) → FollowFrom clock n f rest
follow_after clock n [] f rest h = h
follow_after clock n (x ∷ xs) f rest h = in_rest x xs h
  where
    in_rest : (x : Basic) (xs : List Basic) → FollowFrom clock n x (xs ++ f ∷ rest)
        → FollowFrom clock n f rest
    in_rest x [] h = h.1
    in_rest x (y ∷ ys) h = in_rest y ys h.1

-- the one before it, after whose start none of those before begins
pub one_before : (clock : Clock) (n : ℕ) (x : Basic) (xs : List Basic) (f : Basic) (rest : List Basic)
    → FollowFrom clock n x (xs ++ f ∷ rest)
    → (y : Basic) × Follows clock n y f × AllByRecursion (λ b. b.part.start ≤ y.part.start) (x ∷ xs)
one_before clock n x [] f rest h = (x, h.0, (omega arith, tt))
one_before clock n x (z ∷ zs) f rest h =
    let later = one_before clock n z zs f rest h.1 in
    let step = h.0.starts in
    let bound = later.2.0 in
    (later.0, later.1, (omega (arith, step, bound), later.2))

-- ---- ticks

pub contains_among : (ts : List ℤ) (t : ℤ) → Contains ts t → IsAmong t ts
contains_among ts t there = at ts there.0 there.1 there.2
  where
    at : (ts : List ℤ) (k : ℕ) → k < length ts → get_or ts k t ≡ t → IsAmong t ts
    at [] k inside is = absurd (omega (arith, inside))
    at (u ∷ us) zero inside is = inl (sym is)
    at (u ∷ us) (suc k) inside is = inr (at us k (omega (arith, inside)) is)

pub among_contains : (ts : List ℤ) (t : ℤ) → IsAmong t ts → Contains ts t
among_contains [] t is = absurd is
among_contains (u ∷ us) t (inl same) = (0, omega arith, sym same)
among_contains (u ∷ us) t (inr later) =
    let rest = among_contains us t later in
    let inside = rest.1 in
    (suc rest.0, omega (arith, inside), rest.2)

moment_later : (a b : ℤ) → a ≤ℤ b → moment_of a ≤ℤ moment_of b
moment_later a b h = omega (arith, ints, h)

-- the places of ticks do not fall
steps_rise : (clock : Clock) (n : ℕ) (low : ℤ) (step count : ℕ)
    → PlacesRise (tick_place clock n) (steps_from low step count)
unfolding steps_from
steps_rise clock n low step zero = tt
steps_rise clock n low step (suc count) =
    (above (low +ℤ pos step) count (omega (arith, ints)), steps_rise clock n (low +ℤ pos step) step count)
  where
    above : (from : ℤ) (count : ℕ) → low ≤ℤ from
        → AllByRecursion (λ u. tick_place clock n low ≤ tick_place clock n u) (steps_from from step count)
    above from zero h = tt
    above from (suc count) h = (
      place_rises clock (moment_of low) (moment_of from) n (moment_later low from h),
      above (from +ℤ pos step) count (omega (arith, ints, h)),
    )

pub ticks_rise : (clock : Clock) (n period : ℕ) → PlacesRise (tick_place clock n) (ticks clock n period)
unfolding ticks
ticks_rise clock n period = steps_rise clock n _ period _
