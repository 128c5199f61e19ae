-- The first place that has not been passed tells whether a basic interval begins a segment.
use Rattle.std.proofs.Common.{◌≡◌, ℕ, zero, suc, ◌<◌, ◌≤◌, Bool, true, false, ◌&&◌, ◌||◌, nat_lt, nat_le, List, [], ◌∷◌, length, take, slice_get, get_or, IfSome, All, refl, sym, ◌∙◌, ap, arith}
use Rattle.std.specs.Bool.{⊤}
use Rattle.std.specs.List.{AllByRecursion, list_any}
use Rattle.std.specs.List.Sorted.{IsNonDecreasing}
use Rattle.std.specs.Option.{option_map_or}
use Rattle.std.proofs.lemmas.Bool.Decides.{nat_tests}
use Rattle.std.proofs.lemmas.List.Elements.{All-weaker, recursion_from_All}

-- the places do not fall, from a place on
abbrev RiseFrom : ℕ → List ℕ → Type 0
RiseFrom low [] = ⊤
RiseFrom low (p ∷ ps) = (low ≤ p) × RiseFrom p ps

rise_from : (low : ℕ) (ps : List ℕ) → IsNonDecreasing ps → ((d : ℕ) → 0 < length ps → low ≤ get_or ps 0 d) →
    RiseFrom low ps
rise_from low [] rises first = tt
rise_from low (p ∷ ps) rises first = (
  first p (omega arith),
  rise_from p ps
      (λ i j d order inside. rises (suc i) (suc j) d (omega (arith, order)) (omega (arith, inside)))
      (λ d some. rises zero (suc zero) d (omega arith) (omega (arith, some))),
)

late : (e w : ℕ) → w < e → nat_le e w ≡ false
late e w h = grind (arith, nat_tests, h)

less_is : (a b : ℕ) → a < b → nat_lt a b ≡ true
less_is a b h = grind (arith, nat_tests, h)

not_less : (a b : ℕ) → b ≤ a → nat_lt a b ≡ false
not_less a b h = grind (arith, nat_tests, h)

more_is : (a b : ℕ) → nat_le a b ≡ false → b < a
more_is a b h = grind (arith, nat_tests, h)

neither : (a b c : Bool) → b ≡ false → c ≡ false → ((a && b) || c) ≡ false
neither true true c e f = absurd (let bad : ⊥ = cc in bad)
neither true false c e f = f
neither false b c e f = f

-- a tick's place lies after one start and not after another
abbrev lies_between : ℕ → ℕ → ℕ → Bool
lies_between before start p = nat_lt before p && nat_le p start

none_above : (before start low : ℕ) (ps : List ℕ) → start < low → RiseFrom low ps →
    list_any (lies_between before start) ps ≡ false
none_above before start low [] less rises = refl
none_above before start low (p ∷ ps) less rises =
    let from = rises.0 in
    neither (nat_lt before p) (nat_le p start) (list_any (lies_between before start) ps)
    (late p start (omega (arith, less, from)))
    (none_above before start p ps (omega (arith, less, from)) rises.1)

by_first : (before start low k : ℕ) (ps : List ℕ) → RiseFrom low ps →
    AllByRecursion (λ p. p ≤ before) (take k ps) → IfSome (slice_get ps k) (λ p. before < p)
    → list_any (lies_between before start) ps ≡ option_map_or (λ p. nat_le p start) (slice_get ps k) false
by_first before start low zero [] rises passed later = refl
by_first before start low (suc k) [] rises passed later = refl
by_first before start low zero (p ∷ ps) rises passed later = at (nat_le p start) refl
  where
    at : (b : Bool) → nat_le p start ≡ b
        → ((nat_lt before p && nat_le p start) || list_any (lies_between before start) ps) ≡ nat_le p start
    at true is =
        ap (λ b. (nat_lt before p && b) || list_any (lies_between before start) ps) is
        ∙ ap (λ b. (b && true) || list_any (lies_between before start) ps) (less_is before p later)
        ∙ sym is
    at false is =
        neither (nat_lt before p) (nat_le p start) (list_any (lies_between before start) ps) is
        (none_above before start p ps (more_is p start is) rises.1)
        ∙ sym is
by_first before start low (suc k) (p ∷ ps) rises passed later =
    ap (λ b. (b && nat_le p start) || list_any (lies_between before start) ps) (not_less before p passed.0)
    ∙ by_first before start p k ps rises.1 passed.1 later

-- where the places do not fall, and those up to an index are passed
pub told_by_first : (before start k : ℕ) (places : List ℕ) → IsNonDecreasing places →
    All (λ p. p ≤ before) (take k places) → IfSome (slice_get places k) (λ p. before < p) →
    list_any (λ p. nat_lt before p && nat_le p start) places
    ≡ option_map_or (λ p. nat_le p start) (slice_get places k) false
told_by_first before start k places rises passed later =
    by_first before start 0 k places (rise_from 0 places rises (λ d some. omega arith))
    (recursion_from_All (λ p. p ≤ before) (take k places) passed) later

-- what is passed stays so at a later start
pub passed_on : (before start : ℕ) (ps : List ℕ) → before ≤ start → All (λ p. p ≤ before) ps →
    All (λ p. p ≤ start) ps
passed_on before start ps more passed =
    All-weaker (λ p. p ≤ before) (λ p. p ≤ start) (λ p h. omega (arith, h, more)) ps passed

-- before the first, none is
pub none_passed : (start : ℕ) (ps : List ℕ) → All (λ p. ⊥) ps → All (λ p. p ≤ start) ps
none_passed start ps none = All-weaker (λ p. ⊥) (λ p. p ≤ start) (λ p h. absurd h) ps none

-- the place at an index lies later than another
pub found_later : (ps : List ℕ) (k before : ℕ) → before < get_or ps k 0 →
    IfSome (slice_get ps k) (λ p. before < p)
found_later [] zero before h = tt
found_later [] (suc k) before h = tt
found_later (p ∷ ps) zero before h = h
found_later (p ∷ ps) (suc k) before h = found_later ps k before h

-- past the last there is none
pub past_later : (ps : List ℕ) (k before : ℕ) → length ps ≤ k → IfSome (slice_get ps k) (λ p. before < p)
past_later [] zero before h = tt
past_later [] (suc k) before h = tt
past_later (p ∷ ps) zero before h = absurd (omega (arith, h))
past_later (p ∷ ps) (suc k) before h = past_later ps k before (omega (arith, h))
