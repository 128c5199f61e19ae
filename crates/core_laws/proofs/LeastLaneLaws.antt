-- The first lane that has the least word is there, and has it.
use Rattle.std.proofs.Common.{◌≡◌, ℕ, zero, suc, ◌+◌, ◌<◌, ◌⊎◌, inl, inr, min, Bool, true, false, cond, not, eqb, nat_lt, eq-eqb, List, [], ◌∷◌, length, get_or, slice_get, Some, None, unwrap_or, arith, refl, sym, ap, ◌∙◌, subst}
use Rattle.std.specs.List.{fold, list_all, position_or_len}
use Rattle.std.proofs.lemmas.Bool.{cases_lt, eqb-true}
use Rattle.std.proofs.lemmas.Bool.Decides.{nat_tests}
use Rattle.std.proofs.lemmas.List.Sums.{passes_at_first}
use Rattle.chain_core.specs.Core.{least, least_lane}

-- the least of a word and others is that word or one of them
abbrev OneOf : ℕ → ℕ → List ℕ → Type 0
OneOf x first others = (x ≡ first) ⊎ ((k : ℕ) × (k < length others) × (get_or others k 0 ≡ x))

lesser : (a b : ℕ) → (min a b ≡ a) ⊎ (min a b ≡ b)
lesser a b = elim (cases_lt a b) [
  | inl less ↦ inl (omega (arith, less))
  | inr more ↦ inr (omega (arith, more))
]

one_of : (first : ℕ) (others : List ℕ) → OneOf (fold min first others) first others
one_of first [] = inl refl
one_of first (w ∷ others) = elim (one_of (min first w) others) [
  | inl same ↦ elim (lesser first w) [
    | inl is ↦ inl (same ∙ is)
    | inr is ↦ inr (0, omega arith, sym (same ∙ is))
  ]
  | inr later ↦ inr (suc later.0, omega (arith, later.1), later.2)
]

least_stands : (words : List ℕ) → 0 < length words →
    (k : ℕ) × (k < length words) × (get_or words k 0 ≡ least words)
least_stands [] some = absurd (omega arith)
least_stands (w ∷ words) some = elim (one_of w words) [
  | inl same ↦ (0, omega arith, sym same)
  | inr later ↦ (suc later.0, omega (arith, later.1), later.2)
]

-- a place that passes is not before the first one
first_within : (p : ℕ → Bool) (xs : List ℕ) (k : ℕ) → k < length xs → p (get_or xs k 0) ≡ true →
    position_or_len p xs < length xs
first_within p [] k h passes = absurd (omega arith)
first_within p (x ∷ xs) zero h passes =
    subst (λ b. cond (not b) (1 + position_or_len p xs) 0 < length (x ∷ xs)) (sym passes) (omega arith)
first_within p (x ∷ xs) (suc k) h passes =
    at (p x) (first_within p xs k (omega (arith, h)) passes)
  where
    at : (b : Bool) → position_or_len p xs < length xs →
        cond (not b) (1 + position_or_len p xs) 0 < suc (length xs)
    at true rest = omega arith
    at false rest = omega (arith, rest)

lt_is : (a b : ℕ) → a < b → nat_lt a b ≡ true
lt_is a b h = grind (arith, nat_tests, h)

pub least_lane_has : (words : List ℕ) → 0 < length words →
    (least_lane words < length words) × (get_or words (least_lane words) 0 ≡ least words)
least_lane_has words some =
    let p = λ (w : ℕ). eqb w (least words) in
    let stands = least_stands words some in
    let within = first_within p words stands.0 stands.1 (eq-eqb _ _ stands.2) in
    let is : least_lane words ≡ position_or_len p words =
    ap (λ b. unwrap_or (cond b (Some (position_or_len p words)) None) 0) (lt_is _ _ within) in
    let passes = passes_at_first p words 0 within in (
      subst (λ k. k < length words) (sym is) within,
      ap (λ k. get_or words k 0) is ∙ eqb-true _ _ passes,
    )

-- where all are loaded, each is
pub each_loaded : (loaded : List Bool) (lane : ℕ) → list_all (λ b. b) loaded ≡ true → lane < length loaded →
    slice_get loaded lane ≡ Some true
each_loaded [] lane all h = absurd (omega arith)
each_loaded (true ∷ loaded) zero all h = refl
each_loaded (false ∷ loaded) zero all h = absurd (let bad : ⊥ = cc in bad)
each_loaded (true ∷ loaded) (suc lane) all h = each_loaded loaded lane all (omega (arith, h))
each_loaded (false ∷ loaded) (suc lane) all h = absurd (let bad : ⊥ = cc in bad)
