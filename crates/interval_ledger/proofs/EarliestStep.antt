-- The first of the least starts so far, with one start more.
use Rattle.std.proofs.Common.{◌≡◌, ℕ, ◌+◌, ◌<◌, ◌≤◌, List, slice_index, Option, Some, None, sym, subst, ap, inl, inr, arith}
use Rattle.std.proofs.lemmas.Bool.{cases_lt}
use Rattle.interval_ledger.specs.Earliest.{IsLeastSoFar}

-- of the numbers below k + 1, k itself or one below it
last_or : (P : ℕ → Type 0) (k : ℕ) → ((j : ℕ) → j < k → P j) → P k → (j : ℕ) → j < k + 1 → P j
last_or P k before at j less =
    elim (cases_lt j k) [
      | inl below ↦ before j below
      | inr not ↦ subst P (let e : k ≡ j = omega (arith, less, not) in e) at
    ]

-- below all those before it, where it is below the least of them
below_all : (starts : List ℕ) (k least c : ℕ) → least ≡ slice_index starts c →
    ((j : ℕ) → j < c → least < slice_index starts j) →
    ((j : ℕ) → c < j → j < k → least ≤ slice_index starts j) → (n : ℕ) → n < least →
    (j : ℕ) → j < k → n < slice_index starts j
below_all starts k least c is earlier later n less j inside =
    elim (cases_lt j c) [
      | inl before ↦ (let a = earlier j before in omega (arith, a, less))
      | inr not ↦ elim (cases_lt c j) [
        | inl after ↦ (let a = later j after inside in omega (arith, a, less))
        | inr same ↦ (let e : c ≡ j = omega (arith, not, same) in
            let a : slice_index starts c ≡ slice_index starts j = ap (slice_index starts) e in
            omega (arith, a, is, less))
      ]
    ]

-- it is the least now
pub less_now : (starts : List ℕ) (until k least : ℕ) (found : Option ℕ) → slice_index starts k < least →
    IsLeastSoFar starts until k least found →
    IsLeastSoFar starts until (k + 1) (slice_index starts k) (Some k)
less_now starts until k least None less so = (
  refl',
  omega arith,
  omega (arith, less, so.0),
  (λ j before. let a = so.1 j before in let b = so.0 in omega (arith, less, a, b)),
  (λ j after inside. absurd (omega (arith, after, inside))),
)
  where
    refl' : slice_index starts k ≡ slice_index starts k
    refl' = omega arith
less_now starts until k least (Some c) less so =
    let b = so.2 in (
      refl',
      omega arith,
      omega (arith, less, b),
      below_all starts k least c so.0 so.3 so.4 (slice_index starts k) less,
      (λ j after inside. absurd (omega (arith, after, inside))),
    )
  where
    refl' : slice_index starts k ≡ slice_index starts k
    refl' = omega arith

-- it is not
pub same_now : (starts : List ℕ) (until k least : ℕ) (found : Option ℕ) → least ≤ slice_index starts k →
    IsLeastSoFar starts until k least found → IsLeastSoFar starts until (k + 1) least found
same_now starts until k least None more so =
    (so.0, last_or (λ j. until ≤ slice_index starts j) k so.1 (let a = so.0 in omega (arith, a, more)))
same_now starts until k least (Some c) more so = (
  so.0,
  (let a = so.1 in omega (arith, a)),
  so.2,
  so.3,
  (λ j after inside. last_or (λ i. c < i → least ≤ slice_index starts i) k (λ i below past. so.4 i past below)
      (λ past. more) j inside after),
)

-- either way
pub less_so : (starts : List ℕ) (until k start least after : ℕ) (found next : Option ℕ) →
    slice_index starts k ≡ start → start < least → next ≡ Some k → after ≡ start →
    IsLeastSoFar starts until k least found → IsLeastSoFar starts until (k + 1) after next
less_so starts until k start least after found next is less next_is after_is so =
    subst (λ o. IsLeastSoFar starts until (k + 1) after o) (sym next_is)
    (subst (λ n. IsLeastSoFar starts until (k + 1) n (Some k))
    (let e : slice_index starts k ≡ after = omega (arith, is, after_is) in e)
    (less_now starts until k least found (omega (arith, is, less)) so))

pub same_so : (starts : List ℕ) (until k start least after : ℕ) (found next : Option ℕ) →
    slice_index starts k ≡ start → least ≤ start → next ≡ found → after ≡ least →
    IsLeastSoFar starts until k least found → IsLeastSoFar starts until (k + 1) after next
same_so starts until k start least after found next is more next_is after_is so =
    subst (λ o. IsLeastSoFar starts until (k + 1) after o) (sym next_is)
    (subst (λ n. IsLeastSoFar starts until (k + 1) n found) (sym after_is)
    (same_now starts until k least found (omega (arith, is, more)) so))
