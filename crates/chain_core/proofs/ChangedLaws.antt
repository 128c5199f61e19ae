-- What stands in a list with one element changed.
use Rattle.std.proofs.Common.{◌≡◌, ℕ, zero, suc, ◌+◌, ◌<◌, ◌≤◌, ◌⊎◌, inl, inr, List, [], ◌∷◌, ◌++◌, length, get_or, slice_get, slice_set, Option, Some, None, unwrap_or, arith, refl, sym, ap, ◌∙◌, subst}
use Rattle.std.specs.Option.{option_map, option_map_or}
use Rattle.chain_core.specs.Changed.{changed_at}

put : {X : Type 0} → X → List X → ℕ → (X → X) → Option X → List X
put x xs i f found = option_map_or (λ y. slice_set (x ∷ xs) (suc i) (f y)) found (x ∷ xs)

-- a change past the first element
changed_later : {X : Type 0} (x : X) (xs : List X) (i : ℕ) (f : X → X) →
    changed_at (x ∷ xs) (suc i) f ≡ x ∷ changed_at xs i f
changed_later {X} x xs i f = at (slice_get xs i)
  where
    at : (found : Option X) → option_map_or (λ y. slice_set (x ∷ xs) (suc i) (f y)) found (x ∷ xs)
        ≡ x ∷ option_map_or (λ y. slice_set xs i (f y)) found xs
    at None = refl
    at (Some y) = refl

-- at the index of the change
pub changed_same : {X : Type 0} (xs : List X) (i : ℕ) (f : X → X) →
    slice_get (changed_at xs i f) i ≡ option_map f (slice_get xs i)
changed_same [] i f = refl
changed_same (x ∷ xs) zero f = refl
changed_same {X} (x ∷ xs) (suc i) f =
    ap (λ (ys : List X). slice_get ys (suc i)) (changed_later x xs i f) ∙ changed_same xs i f

-- at another index
pub changed_other : {X : Type 0} (xs : List X) (i j : ℕ) (f : X → X) → (i ≡ j → ⊥) →
    slice_get (changed_at xs i f) j ≡ slice_get xs j
changed_other [] i j f ne = refl
changed_other (x ∷ xs) zero zero f ne = absurd (ne refl)
changed_other (x ∷ xs) zero (suc j) f ne = refl
changed_other {X} (x ∷ xs) (suc i) zero f ne = ap (λ (ys : List X). slice_get ys 0) (changed_later x xs i f)
changed_other {X} (x ∷ xs) (suc i) (suc j) f ne =
    ap (λ (ys : List X). slice_get ys (suc j)) (changed_later x xs i f)
    ∙ changed_other xs i j f (λ e. ne (ap suc e))

-- what stands in a list stands in a longer one
pub get_before : {X : Type 0} (xs ys : List X) (j : ℕ) (x : X) → slice_get xs j ≡ Some x →
    slice_get (xs ++ ys) j ≡ Some x
get_before [] ys j x is = absurd (let bad : ⊥ = cc in bad)
get_before (z ∷ xs) ys zero x is = is
get_before (z ∷ xs) ys (suc j) x is = get_before xs ys j x is

-- a change keeps the length
pub changed_length : {X : Type 0} (xs : List X) (i : ℕ) (f : X → X) → length (changed_at xs i f) ≡ length xs
changed_length [] i f = refl
changed_length (x ∷ xs) zero f = refl
changed_length {X} (x ∷ xs) (suc i) f =
    ap (λ (ys : List X). length ys) (changed_later x xs i f) ∙ ap suc (changed_length xs i f)

-- what stands in a changed list stood there, or is what the change made of what stood there
pub changed_was : {X : Type 0} (xs : List X) (i j : ℕ) (f : X → X) (y : X) →
    slice_get (changed_at xs i f) j ≡ Some y →
    (slice_get xs j ≡ Some y) ⊎ ((x : X) × (i ≡ j) × (slice_get xs j ≡ Some x) × (f x ≡ y))
changed_was [] i j f y is = inl is
changed_was (x ∷ xs) zero zero f y is = inr (x, refl, refl, ap (λ o. unwrap_or o (f x)) is)
changed_was (x ∷ xs) zero (suc j) f y is = inl is
changed_was {X} (x ∷ xs) (suc i) zero f y is =
    inl (sym (ap (λ (ys : List X). slice_get ys 0) (changed_later x xs i f)) ∙ is)
changed_was {X} (x ∷ xs) (suc i) (suc j) f y is =
    elim (changed_was xs i j f y (sym (ap (λ (ys : List X). slice_get ys (suc j))
    (changed_later x xs i f)) ∙ is)) [
      | inl was ↦ inl was
      | inr w ↦ inr (w.0, ap suc w.1, w.2, w.3)
    ]

-- a number of a changed list was there, or is what the change made of it
pub changed_number : (xs : List ℕ) (i j : ℕ) (f : ℕ → ℕ) →
    (get_or (changed_at xs i f) j 0 ≡ get_or xs j 0)
    ⊎ ((i ≡ j) × (get_or (changed_at xs i f) j 0 ≡ f (get_or xs j 0)))
changed_number [] i j f = inl refl
changed_number (x ∷ xs) zero zero f = inr (refl, refl)
changed_number (x ∷ xs) zero (suc j) f = inl refl
changed_number (x ∷ xs) (suc i) zero f = inl (ap (λ (ys : List ℕ). get_or ys 0 0) (changed_later x xs i f))
changed_number (x ∷ xs) (suc i) (suc j) f =
    let here = ap (λ (ys : List ℕ). get_or ys (suc j) 0) (changed_later x xs i f) in
    elim (changed_number xs i j f) [
      | inl same ↦ inl (here ∙ same)
      | inr made ↦ inr (ap suc made.0, here ∙ made.1)
    ]

-- what stands in a list with one more stood there, or is the one
pub get_after : {X : Type 0} (xs : List X) (z : X) (j : ℕ) (y : X) → slice_get (xs ++ z ∷ []) j ≡ Some y →
    (slice_get xs j ≡ Some y) ⊎ (z ≡ y)
get_after [] z zero y is = inr (ap (λ o. unwrap_or o z) is)
get_after [] z (suc j) y is = absurd (let bad : ⊥ = cc in bad)
get_after (x ∷ xs) z zero y is = inl is
get_after (x ∷ xs) z (suc j) y is = get_after xs z j y is

-- past the end there is nothing
pub none_later : {X : Type 0} (xs : List X) (i j : ℕ) → i ≤ j → slice_get xs i ≡ None → slice_get xs j ≡ None
none_later [] i j le is = refl
none_later (x ∷ xs) zero j le is = absurd (let bad : ⊥ = cc in bad)
none_later (x ∷ xs) (suc i) zero le is = absurd (omega arith)
none_later (x ∷ xs) (suc i) (suc j) le is = none_later xs i j (omega arith) is

-- what stands there stands before the end, and the other way round
pub stands_within : {X : Type 0} (xs : List X) (i : ℕ) (x : X) → slice_get xs i ≡ Some x → i < length xs
stands_within [] i x is = absurd (let bad : ⊥ = cc in bad)
stands_within (y ∷ xs) zero x is = omega arith
stands_within (y ∷ xs) (suc i) x is = let h = stands_within xs i x is in omega (arith, h)

pub within_stands : {X : Type 0} (xs : List X) (i : ℕ) → i < length xs → (x : X) × (slice_get xs i ≡ Some x)
within_stands [] i h = absurd (omega arith)
within_stands (y ∷ xs) zero h = (y, refl)
within_stands (y ∷ xs) (suc i) h = within_stands xs i (omega arith)
