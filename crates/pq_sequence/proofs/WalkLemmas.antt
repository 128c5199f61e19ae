-- Runs of cycles and fronts, gone along with one another.
use Rattle.std.proofs.Common.{◌≡◌, ℕ, zero, suc, ◌+◌, ◌-◌, ◌<◌, ◌≤◌, ◌==◌, ◌&&◌, Bool, true, false, nat_lt, List, [], ◌∷◌, length, map, filter, get_or, slice_index, refl, sym, ◌∙◌, ap, subst, inl, inr, arith}
use Rattle.std.specs.List.{list_any}
use Rattle.std.specs.List.Sorted.{IsNonDecreasing, IsStrictlyIncreasing}
use Rattle.std.proofs.lemmas.Bool.{cases_lt}
use Rattle.std.proofs.lemmas.Bool.Decides.{nat_tests}
use Rattle.std.proofs.lemmas.List.{get_or_default}
use Rattle.std.proofs.lemmas.List.Kept.{AllPairs-from_increasing, IsStrictlyIncreasing-filter}
use Rattle.pq_sequence.specs.Measured.{AreBelow, run_starts}
use Rattle.pq_sequence.proofs.FrontLemmas.{boundaries_ordered}
use Rattle.pq_sequence.proofs.NeighbourLaws.{IsIn, any_in, contained, in_any, in_contained}
use Rattle.pq_words.specs.Steps.{numbers_below, numbers_from}
use Rattle.pq_words.proofs.StepLaws.{length_numbers}
use Rattle.ten_twelve.specs.Run.{begins_run, run_from, runs}

-- ---- runs begin one after another

number_at : (low n k : ℕ) → k < n → slice_index (numbers_from low n) k ≡ low + k
unfolding numbers_from
number_at low zero k inside = absurd (omega (arith, inside))
number_at low (suc n) zero inside = omega arith
number_at low (suc n) (suc k) inside =
    let step : low + 1 + k ≡ low + suc k = omega arith in
    number_at (low + 1) n k (omega (arith, inside)) ∙ step

numbers_increase : (low n : ℕ) → IsStrictlyIncreasing (numbers_from low n)
numbers_increase low n k inside =
    let there : k + 1 < n = omega (arith, inside, length_numbers low n) in
    let here = number_at low n k (omega (arith, there)) in
    let next = number_at low n (k + 1) there in
    omega (arith, here, next)

starts_are : (m : ℕ) (xs : List ℕ) → run_starts (map (run_from m) xs) ≡ xs
starts_are m [] = refl
starts_are m (x ∷ xs) = ap (λ ys. x ∷ ys) (starts_are m xs)

pub runs_rise : (starts : List ℕ) (m count : ℕ) → IsNonDecreasing (run_starts (runs starts m count))
unfolding runs
runs_rise starts m count =
    let n = count + 1 - m in
    let xs = filter (begins_run starts m) (numbers_below n) in
    subst (λ ys. IsNonDecreasing ys) (sym (starts_are m xs))
    (boundaries_ordered xs (AllPairs-from_increasing xs
    (IsStrictlyIncreasing-filter (begins_run starts m) (numbers_below n) (numbers_increase 0 n))))

-- ---- fronts before a cycle

-- one front more
pub below_more : (cycle : ℕ) (fronts : List ℕ) (next : ℕ) → next < length fronts →
    slice_index fronts next < cycle → AreBelow cycle fronts next → AreBelow cycle fronts (next + 1)
below_more cycle fronts next inside here below = (
  omega (arith, inside),
  λ k less. elim (cases_lt k next) [
    | inl before ↦ below.1 k before
    | inr rest ↦ let same : next ≡ k = omega (arith, less, rest) in
        subst (λ i. slice_index fronts i < cycle) same here
  ],
)

-- before a later cycle too
pub below_later : (cycle later : ℕ) (fronts : List ℕ) (next : ℕ) → cycle ≤ later →
    AreBelow cycle fronts next → AreBelow later fronts next
below_later cycle later fronts next h below =
    (below.0, λ k less. let before = below.1 k less in omega (arith, before, h))

eq_of : (a b : ℕ) → (a == b) ≡ true → a ≡ b
eq_of a b h = grind (arith, nat_tests, h)

same_bool : (a b : Bool) → (a ≡ true → b ≡ true) → (b ≡ true → a ≡ true) → a ≡ b
same_bool true b h g = sym (h refl)
same_bool false true h g = g refl
same_bool false false h g = refl

both_true : (n m a b : ℕ) → n < m → a ≡ b → (nat_lt n m && (a == b)) ≡ true
both_true n m a b less same = grind (arith, nat_tests)

from_both : (n m a b : ℕ) → (nat_lt n m && (a == b)) ≡ true → (n < m) × (a ≡ b)
from_both n m a b h = at (nat_lt n m) refl h
  where
    less_of : nat_lt n m ≡ true → n < m
    less_of is = grind (arith, nat_tests, is)

    same_of : (a == b) ≡ true → a ≡ b
    same_of is = grind (arith, nat_tests, is)

    at : (c : Bool) → nat_lt n m ≡ c → (c && (a == b)) ≡ true → (n < m) × (a ≡ b)
    at true is e = (less_of is, same_of e)
    at false is e = absurd (let bad : ⊥ = cc in bad)

-- the first front that is not before a cycle tells whether it is one
pub front_told : (cycle : ℕ) (fronts : List ℕ) (next : ℕ) → IsStrictlyIncreasing fronts →
    AreBelow cycle fronts next → (next < length fronts → cycle ≤ slice_index fronts next) →
    (nat_lt next (length fronts) && (slice_index fronts next == cycle))
    ≡ list_any (λ g. g == cycle) fronts
front_told cycle fronts next rising below there =
    same_bool _ (list_any (λ g. g == cycle) fronts)
    (λ h.
    let found = from_both next (length fronts) (slice_index fronts next) cycle h in
    let at : get_or fronts next cycle ≡ cycle =
    get_or_default fronts next cycle 0 found.0 ∙ found.1 in
    in_any (λ g. g == cycle) fronts cycle (in_contained cycle fronts (next, found.0, at))
    (grind (arith, nat_tests)))
    (λ h.
    let found = any_in (λ g. g == cycle) fronts h in
    let same : found.0 ≡ cycle = eq_of found.0 cycle found.2 in
    let place = contained cycle fronts (subst (λ g. IsIn g fronts) same found.1) in
    let k = place.0 in
    let at : slice_index fronts k ≡ cycle = get_or_default fronts k 0 cycle place.1 ∙ place.2 in
    elim (cases_lt k next) [
      | inl before ↦ absurd (let less = below.1 k before in omega (arith, less, at))
      | inr from ↦ elim (cases_lt next k) [
        | inl after ↦ absurd (
            let first = there (omega (arith, after, place.1)) in
            let more = AllPairs-from_increasing fronts rising next k 0 after place.1 in
            omega (arith, first, more, at))
        | inr until ↦
            let is : k ≡ next = omega (arith, from, until) in
            both_true next (length fronts) (slice_index fronts next) cycle (omega (arith, is, place.1))
            (ap (slice_index fronts) (sym is) ∙ at)
      ]
    ])

pub told_there : (cycle : ℕ) (fronts : List ℕ) (next : ℕ) → IsStrictlyIncreasing fronts →
    AreBelow cycle fronts next → (next < length fronts → cycle ≤ slice_index fronts next) →
    next < length fronts → (slice_index fronts next == cycle) ≡ list_any (λ g. g == cycle) fronts
told_there cycle fronts next rising below there inside =
    ap (λ b. b && (slice_index fronts next == cycle)) (less_is next (length fronts) inside)
    ∙ front_told cycle fronts next rising below there
  where
    less_is : (n m : ℕ) → n < m → true ≡ nat_lt n m
    less_is n m less = grind (arith, nat_tests)

pub told_past : (cycle : ℕ) (fronts : List ℕ) (next : ℕ) → IsStrictlyIncreasing fronts →
    AreBelow cycle fronts next → (next < length fronts → cycle ≤ slice_index fronts next) →
    length fronts ≤ next → nat_lt next (length fronts) ≡ list_any (λ g. g == cycle) fronts
told_past cycle fronts next rising below there past =
    not_less next (length fronts) past
    ∙ ap (λ b. b && (slice_index fronts next == cycle)) (sym (not_less next (length fronts) past))
    ∙ front_told cycle fronts next rising below there
  where
    not_less : (n m : ℕ) → m ≤ n → nat_lt n m ≡ false
    not_less n m past = grind (arith, nat_tests)
