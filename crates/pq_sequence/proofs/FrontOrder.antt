-- Which fronts there are, and where the front of a place lies among the boundaries.
use Rattle.std.proofs.Common.{◌≡◌, ◌⊎◌, ℕ, suc, ◌+◌, ◌<◌, ◌≤◌, ◌==◌, Bool, true, nat_le, List, [], ◌∷◌, length, filter_map, slice_index, Option, Some, None, refl, ap, subst, inl, inr, arith}
use Rattle.std.specs.List.{dedup}
use Rattle.std.specs.List.Sorted.{IsStrictlyIncreasing}
use Rattle.std.proofs.lemmas.Bool.{cases_lt}
use Rattle.std.proofs.lemmas.Bool.Decides.{nat_tests}
use Rattle.std.proofs.lemmas.List.Kept.{Contains-dedup_nat, Contains-from_dedup}
use Rattle.pq_sequence.specs.BasicInterval.{front_of, fronts}
use Rattle.pq_sequence.proofs.FrontLemmas.{RisesFrom, fronts_start}
use Rattle.pq_sequence.proofs.NeighbourLaws.{IsIn, contained, found_in, in_contained, in_found}
use Rattle.pq_words.specs.First.{FirstAt, IsFirst, first_between}
use Rattle.pq_words.proofs.FirstLaws.{first_between_is}
use Rattle.zero_cross.specs.Boundary.{AreBoundaries}

-- ---- which there are

in_once : (xs : List ℕ) (g : ℕ) → IsIn g xs → IsIn g (dedup (λ a b. a == b) xs)
in_once xs g is =
    in_contained g (dedup (λ a b. a == b) xs) (Contains-dedup_nat xs g (contained g xs is))

once_in : (xs : List ℕ) (g : ℕ) → IsIn g (dedup (λ a b. a == b) xs) → IsIn g xs
once_in xs g is =
    in_contained g xs (Contains-from_dedup (λ a b. a == b) xs g (contained g (dedup (λ a b. a == b) xs) is))

-- the first cycle is one
pub zero_in : (boundaries places : List ℕ) → IsIn 0 (fronts boundaries places)
unfolding fronts
zero_in boundaries places = in_once (0 ∷ filter_map (front_of boundaries) places) 0 (inl refl)

-- and so is the front of each place
pub front_in : (boundaries places : List ℕ) (p g : ℕ) → IsIn p places → front_of boundaries p ≡ Some g →
    IsIn g (fronts boundaries places)
unfolding fronts
front_in boundaries places p g is e =
    in_once (0 ∷ filter_map (front_of boundaries) places) g
    (inr (found_in (front_of boundaries) places p g is e))

-- there is no other
pub in_fronts : (boundaries places : List ℕ) (g : ℕ) → IsIn g (fronts boundaries places) →
    (g ≡ 0) ⊎ ((p : ℕ) × IsIn p places × (front_of boundaries p ≡ Some g))
unfolding fronts
in_fronts boundaries places g is = at (once_in (0 ∷ filter_map (front_of boundaries) places) g is)
  where
    at : (g ≡ 0) ⊎ IsIn g (filter_map (front_of boundaries) places) →
        (g ≡ 0) ⊎ ((p : ℕ) × IsIn p places × (front_of boundaries p ≡ Some g))
    at (inl e) = inl e
    at (inr r) = inr (in_found (front_of boundaries) places g r)

increasing_rises : (x : ℕ) (xs : List ℕ) → IsStrictlyIncreasing (x ∷ xs) → RisesFrom x xs
increasing_rises x [] h = tt
increasing_rises x (y ∷ ys) h =
    let first = h 0 (omega arith) in
    let rest : IsStrictlyIncreasing (y ∷ ys) = λ k inside.
    let step : suc k + 1 ≡ suc (k + 1) = omega arith in
    subst (λ j. slice_index (y ∷ ys) k < slice_index (x ∷ y ∷ ys) j) step
    (h (suc k) (omega (arith, inside))) in
    (omega (arith, first), increasing_rises y ys rest)

-- they rise, where the places do
pub fronts_rise : (boundaries places : List ℕ) → RisesFrom 0 places → RisesFrom 0 (fronts boundaries places)
fronts_rise boundaries places rises =
    at (fronts boundaries places) (fronts_start boundaries places rises).rising
  where
    at : (xs : List ℕ) → IsStrictlyIncreasing xs → RisesFrom 0 xs
    at [] h = tt
    at (x ∷ xs) h = (omega arith, increasing_rises x xs h)

-- ---- the front of a place

reached : (p b : ℕ) → nat_le p b ≡ true → p ≤ b
reached p b h = grind (arith, nat_tests, h)

of_reached : (p b : ℕ) → p ≤ b → nat_le p b ≡ true
of_reached p b h = grind (arith, nat_tests, h)

module _ (boundaries : List ℕ) (p : ℕ) where
  abbrev reaches : ℕ → Bool
  reaches j = nat_le p (slice_index boundaries j)

  front_first : (g : ℕ) → front_of boundaries p ≡ Some g → FirstAt reaches 0 (length boundaries) g
  unfolding front_of
  front_first g e = subst (λ r. IsFirst reaches 0 (length boundaries) r) e
      (first_between_is reaches 0 (length boundaries))

  -- it lies at the place or after it, and no boundary before it does
  pub front_reaches : (g : ℕ) → front_of boundaries p ≡ Some g → p ≤ slice_index boundaries g
  front_reaches g e = reached p (slice_index boundaries g) (front_first g e).passes

  pub before_front : (g x : ℕ) → front_of boundaries p ≡ Some g → x < g → slice_index boundaries x < p
  before_front g x e less =
      elim (cases_lt (slice_index boundaries x) p) [
        | inl before ↦ before
        | inr rest ↦ absurd ((front_first g e).none_before x (omega arith) less
            (of_reached p (slice_index boundaries x) rest))
      ]

  -- a place at a boundary or before it has its front there or before it
  pub front_until : (y : ℕ) → p ≤ slice_index boundaries y → y < length boundaries →
      (g : ℕ) × (front_of boundaries p ≡ Some g) × (g ≤ y)
  unfolding front_of
  front_until y h inside = at (first_between reaches 0 (length boundaries)) refl
    where
      at : (o : Option ℕ) → first_between reaches 0 (length boundaries) ≡ o → (g : ℕ) × (o ≡ Some g) × (g ≤ y)
      at None e =
          let none = subst (λ r. IsFirst reaches 0 (length boundaries) r) e
          (first_between_is reaches 0 (length boundaries)) in
          absurd (none y (omega arith) inside (of_reached p (slice_index boundaries y) h))
      at (Some g) e =
          let first = subst (λ r. IsFirst reaches 0 (length boundaries) r) e
          (first_between_is reaches 0 (length boundaries)) in (
            g,
            refl,
            elim (cases_lt y g) [
              | inl less ↦ absurd (first.none_before y (omega arith) less
                  (of_reached p (slice_index boundaries y) h))
              | inr rest ↦ rest
            ],
          )

  -- a place after a boundary has its front after it
  pub front_after : (n g x : ℕ) → AreBoundaries boundaries n → front_of boundaries p ≡ Some g →
      slice_index boundaries x < p → x < length boundaries → x < g
  front_after n g x are e over inside =
      let until = front_reaches g e in
      elim (cases_lt x g) [
        | inl less ↦ less
        | inr back ↦ elim (cases_lt g x) [
          | inl below ↦ let rise = are.rising g x 0 below inside in absurd (omega (arith, rise, until, over))
          | inr up ↦
              let same : g ≡ x = omega (arith, back, up) in
              let e : slice_index boundaries g ≡ slice_index boundaries x =
              ap (slice_index boundaries) same in
              absurd (omega (arith, e, until, over))
        ]
      ]
