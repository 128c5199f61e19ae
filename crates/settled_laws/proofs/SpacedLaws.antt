-- Boundaries lie at least the rule's least distance apart, so there are few.
use Rattle.std.proofs.Common.{◌≡◌, ℕ, zero, suc, ◌+◌, ◌-◌, ◌*◌, ◌<◌, ◌≤◌, min, Bool, true, false, not, List, [], ◌∷◌, length, map, Option, None, Some, option_map, IfSome, nat_lt, if◌then◌else◌, ℤ, refl, subst, arith}
use Rattle.std.specs.Bool.{⊤}
use Rattle.std.specs.Option.{option_or}
use Rattle.std.proofs.lemmas.Bool.Decides.{nat_tests}
use Rattle.zero_cross.specs.declared.rule.Rule.{Rule}
use Rattle.zero_cross.specs.declared.boundary.Boundary.{Boundary}
use Rattle.zero_cross.specs.Boundary.{IsRule, crosses_at, first_boundary, next_boundary, boundary_at, boundary_after, boundary_zero, boundaries, boundary_places}
use Rattle.zero_cross.proofs.BoundaryLaws.{first_within}
use Rattle.zero_cross.proofs.RuleLaws.{IsNear, rule_is_near}
use Rattle.pq_words.specs.First.{IsFirst}
use Rattle.pq_words.specs.Successors.{successors}
use Rattle.pq_words.proofs.FirstLaws.{first_between_is}

spaced_at : (test : ℕ → Bool) (n b : ℕ) (rule : Rule) (room : Bool) (crossing : Option ℕ) → IsNear rule →
    nat_lt (b + rule.hi) n ≡ room
    → IsFirst test (b + rule.lo) (min (b + rule.hi + 1) n) crossing
    → IfSome (option_or crossing (if room then Some (b + rule.h) else None)) (λ k. (b + rule.lo ≤ k) ×
    (k < n))
spaced_at test n b rule true None near is first = (
  omega (arith, near.below),
  grind (
    arith,
    nat_tests,
    near.above,
  ),
)
spaced_at test n b rule false None near is first = tt
spaced_at test n b rule room (Some k) near is first = (omega (arith, first.after), omega (arith, first.below))

next_spaced : (s : List ℤ) (rule : Rule) (b : ℕ) (rising : Bool) → IsRule rule →
    IfSome (next_boundary s rule b rising) (λ k. (b + rule.lo ≤ k) × (k < length s))
unfolding next_boundary
next_spaced s rule b rising given =
    let test = crosses_at s rising in
    spaced_at test (length s) b rule (nat_lt (b + rule.hi) (length s)) _ (rule_is_near rule given) refl
    (first_between_is test (b + rule.lo) (min (b + rule.hi + 1) (length s)))

-- places below n, each at least so far after the one before it, from low on
abbrev pub Spaced : ℕ → ℕ → ℕ → List ℕ → Type 0
Spaced gap n low [] = ⊤
Spaced gap n low (p ∷ ps) = (low ≤ p) × (p < n) × Spaced gap n (p + gap) ps

after_spaced : (s : List ℤ) (rule : Rule) → IsRule rule → (b : Boundary) → IfSome (boundary_after s rule b)
    (λ c. (b.place + rule.lo ≤ c.place) × (c.place < length s))
after_spaced s rule given b = at (next_boundary s rule b.place (not b.rising)) (next_spaced s rule b.place
    (not b.rising) given)
  where
    at : (o : Option ℕ) → IfSome o (λ k. (b.place + rule.lo ≤ k) × (k < length s)) →
        IfSome (option_map (boundary_at (not b.rising)) o) (λ c. (b.place + rule.lo ≤ c.place) ×
        (c.place < length s))
    at None h = tt
    at (Some k) h = h

spaced_from : (s : List ℤ) (rule : Rule) (given : IsRule rule) (m low : ℕ) (o : Option Boundary) →
    IfSome o (λ b. (low ≤ b.place) × (b.place < length s))
    → Spaced rule.lo (length s) low (map (λ b. b.place) (successors (boundary_after s rule) m o))
unfolding successors
spaced_from s rule given m low None lies = tt
spaced_from s rule given zero low (Some b) lies = tt
spaced_from s rule given (suc m) low (Some b) lies = (
  lies.0,
  lies.1,
  spaced_from s rule given m
      (b.place + rule.lo) (boundary_after s rule b) (after_spaced s rule given b),
)

-- boundary 0 is a place in the signal
starts_within : (s : List ℤ) (rule : Rule) → IfSome (boundary_zero s rule) (λ b. (0 ≤ b.place) ×
    (b.place < length s))
starts_within s rule = at (first_boundary s rule) (first_within s rule)
  where
    at : (o : Option ℕ) → IfSome o (λ k. k < length s) → IfSome (option_map (boundary_at true) o)
        (λ b. (0 ≤ b.place) × (b.place < length s))
    at None h = tt
    at (Some k) h = (omega arith, h)

pub places_spaced : (s : List ℤ) (rule : Rule) → IsRule rule → Spaced rule.lo (length s) 0
    (boundary_places s rule)
unfolding boundaries
places_spaced s rule given = spaced_from s rule given (length s) 0 (boundary_zero s rule)
    (starts_within s rule)

-- from low on, one fewer than there are times the distance stays below n
spaced_count : (gap n low : ℕ) (p : ℕ) (ps : List ℕ) → Spaced gap n low (p ∷ ps) → low + length ps * gap < n
spaced_count gap n low p [] h = let a = h.0 in let b = h.1 in omega (arith, a, b)
spaced_count gap n low p (q ∷ ps) h =
    let rest = spaced_count gap n (p + gap) q ps h.2 in
    let a = h.0 in
    omega (arith, rest, a)

-- so there are at most so many and one more
pub places_few : (s : List ℤ) (rule : Rule) → IsRule rule → (length (boundary_places s rule) - 1) * rule.lo ≤
    length s
places_few s rule given = at (boundary_places s rule) (places_spaced s rule given)
  where
    at : (ps : List ℕ) → Spaced rule.lo (length s) 0 ps → (length ps - 1) * rule.lo ≤ length s
    at [] h = omega arith
    at (p ∷ ps) h =
        let e = spaced_count rule.lo (length s) 0 p ps h in
        let one : length ps ≡ length (p ∷ ps) - 1 = omega arith in
        subst (λ n. n * rule.lo ≤ length s) one (omega (arith, e))
