-- Cycle boundaries one after another: what is taken, what is left, and the cycles between.
use Rattle.std.proofs.Common.{◌≡◌, ℕ, suc, ◌+◌, ◌<◌, ◌≤◌, ◌&&◌, Bool, true, false, cond, nat_le, List, [], ◌∷◌, length, map, filter, All, Option, Some, None, IfSome, slice_index, refl, sym, ◌∙◌, ap, subst, arith}
use Rattle.std.proofs.lemmas.Bool.Decides.{nat_tests}
use Rattle.std.proofs.lemmas.List.Elements.{All-head, All-tail}
use Rattle.freq10s.specs.declared.cycles.Cycles.{Cycles}
use Rattle.freq10s.specs.Cycles.{AreFrom, StepsTo, boundaries_from, cycles_left, cycles_more, is_next, with_boundary}
use Rattle.freq10s.specs.Frequency.{boundaries_within}
use Rattle.zero_cross.specs.declared.boundary.Boundary.{Boundary}
use Rattle.zero_cross.specs.AllBoundaries.{Alternate}
use Rattle.zero_cross.specs.Boundary.{AreBoundaries, rising_places}

-- ---- rising boundaries among those that alternate

-- the first of them rises
pub rising_first : (b : Boundary) (later : List Boundary) → Alternate true (b ∷ later) →
    rising_places (b ∷ later) ≡ b.place ∷ rising_places later
rising_first b later h = ap (λ r. map (λ (c : Boundary). c.place)
    (cond r (b ∷ filter (λ c. c.rising) later) (filter (λ c. c.rising) later))) h.0

-- the one after it does not
pub falling_first : (b : Boundary) (later : List Boundary) → Alternate false (b ∷ later) →
    rising_places (b ∷ later) ≡ rising_places later
falling_first b later h = ap (λ r. map (λ (c : Boundary). c.place)
    (cond r (b ∷ filter (λ c. c.rising) later) (filter (λ c. c.rising) later))) h.0

-- the boundary that comes next and those after it are all
pub left_of_cycles : (upcoming : Option ℕ) (later all : List Boundary) →
    StepsTo (rising_places all) upcoming (rising_places later) →
    cycles_left upcoming later ≡ rising_places all
left_of_cycles None later all is = sym is
left_of_cycles (Some place) later all is = sym is

-- ---- boundaries by their places

-- boundaries without the first of them
pub fewer_boundaries : (k : ℕ) (later : List ℕ) (n : ℕ) → AreBoundaries (k ∷ later) n → AreBoundaries later n
fewer_boundaries k later n are = record {
  rising = λ i j d less inside.
      are.rising (suc i) (suc j) d (omega (arith, less)) (omega (arith, inside));
  below = All-tail (λ q. q < n) k later are.below;
}

-- those after one lie after it
pub after_first : (k : ℕ) (later : List ℕ) (n : ℕ) → AreBoundaries (k ∷ later) n → All (λ m. k < m) later
after_first k later n are i d inside = are.rising 0 (suc i) d (omega arith) (omega (arith, inside))

kept : (b : Bool) (k : ℕ) (xs : List ℕ) → b ≡ true → cond b (k ∷ xs) xs ≡ k ∷ xs
kept b k xs is = ap (λ c. cond c (k ∷ xs) xs) is

dropped : (b : Bool) (k : ℕ) (xs : List ℕ) → b ≡ false → cond b (k ∷ xs) xs ≡ xs
dropped b k xs is = ap (λ c. cond c (k ∷ xs) xs) is

is_within : (low high k : ℕ) → low ≤ k → k ≤ high → (nat_le low k && nat_le k high) ≡ true
is_within low high k from until = grind (arith, nat_tests)

is_before : (low high k : ℕ) → k < low → (nat_le low k && nat_le k high) ≡ false
is_before low high k before = grind (arith, nat_tests)

is_past : (low high k : ℕ) → high < k → (nat_le low k && nat_le k high) ≡ false
is_past low high k past = grind (arith, nat_tests)

is_from : (place k : ℕ) → place ≤ k → nat_le place k ≡ true
is_from place k from = grind (arith, nat_tests)

is_not_from : (place k : ℕ) → k < place → nat_le place k ≡ false
is_not_from place k before = grind (arith, nat_tests)

-- one boundary more in the interval, or before it
pub within_more : (low high k : ℕ) (later : List ℕ) → low ≤ k → k ≤ high →
    boundaries_within (k ∷ later) low high ≡ k ∷ boundaries_within later low high
within_more low high k later from until =
    kept (nat_le low k && nat_le k high) k (boundaries_within later low high)
    (is_within low high k from until)

pub within_same : (low high k : ℕ) (later : List ℕ) → k < low → boundaries_within (k ∷ later) low high
    ≡ boundaries_within later low high
within_same low high k later before =
    dropped (nat_le low k && nat_le k high) k (boundaries_within later low high) (is_before low high k before)

-- none past it
pub none_within : (low high : ℕ) (later : List ℕ) → All (λ k. high < k) later →
    boundaries_within later low high ≡ []
none_within low high [] past = refl
none_within low high (k ∷ later) past =
    dropped (nat_le low k && nat_le k high) k (boundaries_within later low high)
    (is_past low high k (All-head (λ m. high < m) k later past))
    ∙ none_within low high later (All-tail (λ m. high < m) k later past)

-- one boundary before a place
pub from_same : (place k : ℕ) (later : List ℕ) → k < place → boundaries_from place (k ∷ later)
    ≡ boundaries_from place later
from_same place k later before =
    dropped (nat_le place k) k (boundaries_from place later) (is_not_from place k before)

all_from : (place : ℕ) (later : List ℕ) → All (λ k. place ≤ k) later → boundaries_from place later ≡ later
all_from place [] from = refl
all_from place (k ∷ later) from =
    kept (nat_le place k) k (boundaries_from place later)
    (is_from place k (All-head (λ m. place ≤ m) k later from))
    ∙ ap (λ ks. k ∷ ks) (all_from place later (All-tail (λ m. place ≤ m) k later from))

-- where the first lies at the place or after it, all do
pub from_all : (place n : ℕ) (boundaries : List ℕ) → AreFrom place boundaries → AreBoundaries boundaries n →
    boundaries_from place boundaries ≡ boundaries
from_all place n [] from are = refl
from_all place n (k ∷ later) from are =
    kept (nat_le place k) k (boundaries_from place later) (is_from place k from)
    ∙ ap (λ ks. k ∷ ks) (all_from place later
    (λ i d inside. let less = after_first k later n are i d inside in omega (arith, from, less)))

-- the boundary at the end of the interval is its last
pub ends_at : (cycles : Option Cycles) (low high n : ℕ) (boundaries : List ℕ) → low ≤ high →
    is_next high boundaries ≡ true → AreBoundaries boundaries n →
    cycles_more cycles (boundaries_within boundaries low high) ≡ Some (with_boundary cycles high)
unfolding cycles_more
ends_at cycles low high n [] order is are = absurd (let bad : ⊥ = cc in bad)
ends_at cycles low high n (k ∷ later) order is are =
    let same : k ≡ high = grind (arith, nat_tests, is) in
    let only : boundaries_within (k ∷ later) low high ≡ k ∷ [] =
    within_more low high k later (omega (arith, same, order)) (omega (arith, same))
    ∙ ap (λ ks. k ∷ ks) (none_within low high later
    (λ i d inside. let less = after_first k later n are i d inside in omega (arith, same, less))) in
    ap (cycles_more cycles) only ∙ ap (λ m. Some (with_boundary cycles m)) same

-- where none is there, those that passed are all
pub ends_before : (cycles : Option Cycles) (low high n : ℕ) (boundaries : List ℕ) →
    is_next high boundaries ≡ false → AreFrom high boundaries → AreBoundaries boundaries n →
    cycles_more cycles (boundaries_within boundaries low high) ≡ cycles
unfolding cycles_more
ends_before cycles low high n [] is from are = refl
ends_before cycles low high n (k ∷ later) is from are =
    let past : high < k = grind (arith, nat_tests, is, from) in
    ap (cycles_more cycles) (dropped (nat_le low k && nat_le k high) k (boundaries_within later low high)
    (is_past low high k past)
    ∙ none_within low high later
    (λ i d inside. let less = after_first k later n are i d inside in omega (arith, past, less)))

-- where the next lies at a place, all that is known to lie before it does
pub before_next : (last high : ℕ) (boundaries : List ℕ) → is_next high boundaries ≡ true →
    All (λ k. last < k) boundaries → last < high
before_next last high [] is before = absurd (let bad : ⊥ = cc in bad)
before_next last high (k ∷ later) is before =
    let same : k ≡ high = grind (arith, nat_tests, is) in
    omega (arith, same, All-head (λ m. last < m) k later before)

-- ---- cycles by their boundaries

-- one boundary more
pub cycles_step : (cycles : Option Cycles) (k : ℕ) (later : List ℕ) →
    cycles_more cycles (k ∷ later) ≡ cycles_more (Some (with_boundary cycles k)) later
unfolding cycles_more
cycles_step cycles k later = refl

pub cycles_done : (cycles : Option Cycles) → cycles_more cycles [] ≡ cycles
unfolding cycles_more
cycles_done cycles = refl

-- the first stays, the last is the last one, and each boundary more is a cycle more
pub cycles_are : (first last count : ℕ) (later : List ℕ) →
    cycles_more (Some (record { first = first; last = last; count = count })) later
    ≡ Some (record {
      first = first;
      last = slice_index (last ∷ later) (length later);
      count = count + length later;
    })
unfolding cycles_more
cycles_are first last count [] =
    let same : count ≡ count + 0 = omega arith in
    ap (λ m. Some (record { first = first; last = last; count = m })) same
cycles_are first last count (k ∷ later) =
    let same : count + 1 + length later ≡ count + suc (length later) = omega arith in
    cycles_are first k (count + 1) later
    ∙ ap (λ m. Some (record { first = first; last = slice_index (k ∷ later) (length later); count = m })) same

-- the boundary that was added is the last
pub last_is : (cycles : Option Cycles) (k : ℕ) → (with_boundary cycles k).last ≡ k
last_is None k = refl
last_is (Some c) k = refl

-- what lies before some boundaries lies before the later ones
pub before_fewer : (cycles : Option Cycles) (k : ℕ) (later boundaries : List ℕ) → boundaries ≡ k ∷ later →
    IfSome cycles (λ c. All (λ m. c.last < m) boundaries) → IfSome cycles (λ c. All (λ m. c.last < m) later)
before_fewer None k later boundaries splits before = tt
before_fewer (Some c) k later boundaries splits before =
    All-tail (λ m. c.last < m) k later (subst (λ (ks : List ℕ). All (λ m. c.last < m) ks) splits before)
