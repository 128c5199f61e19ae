-- Boundaries lie within the signal and ahead of one another, so their list goes on until none follows.
use Rattle.std.proofs.Common.{◌≡◌, ℕ, zero, suc, ◌+◌, ◌*◌, ◌<◌, ◌≤◌, min, Bool, true, false, not, cond, List, [], ◌∷◌, length, map, filter, All, Option, None, Some, option_map, option_and_then, unwrap_or, IfSome, slice_get, nat_lt, ◌==◌, if◌then◌else◌, ℤ, refl, ◌∙◌, ap, subst, arith}
use Rattle.std.specs.Option.{option_or}
use Rattle.std.specs.List.{AllPairs}
use Rattle.std.proofs.lemmas.Bool.Decides.{nat_tests}
use Rattle.std.proofs.lemmas.List.Elements.{All-cons, All-filter, All-map, All-nil, All-weaker}
use Rattle.std.proofs.lemmas.List.Kept.{AllPairs-cons, AllPairs-filter}
use Rattle.std.proofs.lemmas.Option.{slice_get-map}
use Rattle.zero_cross.specs.declared.boundary.Boundary.{Boundary}
use Rattle.zero_cross.specs.declared.rule.Rule.{Rule}
use Rattle.zero_cross.specs.AllBoundaries.{Alternate}
use Rattle.zero_cross.specs.Boundaries.{boundaries_from}
use Rattle.zero_cross.specs.Boundary.{IsRule, AreBoundaries, boundary_zero, crosses_at, first_boundary, next_boundary, boundary_at, boundary_after, boundaries, boundary_places, bound, cycle_boundaries}
use Rattle.zero_cross.proofs.RuleLaws.{IsNear, rule_is_near}
use Rattle.pq_words.specs.First.{IsFirst}
use Rattle.pq_words.specs.Successors.{successors}
use Rattle.pq_words.proofs.FirstLaws.{first_between_is}

if_some_map : {X : Type 0} (P Q : X → Type 0) → ((x : X) → P x → Q x) → (o : Option X) → IfSome o P →
    IfSome o Q
if_some_map P Q f None h = tt
if_some_map P Q f (Some x) h = f x h

-- ---- where a boundary lies

first_at : (test : ℕ → Bool) (n most : ℕ) (empty : Bool) (crossing : Option ℕ) → (n == 0) ≡ empty →
    IsFirst test 1 (min most n) crossing
    → IfSome (if empty then None else Some (unwrap_or crossing 0)) (λ k. k < n)
first_at test n most true crossing is first = tt
first_at test n most false None is first = grind (arith, nat_tests)
first_at test n most false (Some k) is first = omega (arith, first.below)

-- boundary 0 is a place in the signal
pub first_within : (s : List ℤ) (rule : Rule) → IfSome (first_boundary s rule) (λ k. k < length s)
unfolding first_boundary
first_within s rule =
    let test = crosses_at s true in
    first_at test (length s) (2 * rule.hi + 1) (length s == 0) _ refl
    (first_between_is test 1 (min (2 * rule.hi + 1) (length s)))

next_at : (test : ℕ → Bool) (n b : ℕ) (rule : Rule) (room : Bool) (crossing : Option ℕ) → IsNear rule →
    nat_lt (b + rule.hi) n ≡ room
    → IsFirst test (b + rule.lo) (min (b + rule.hi + 1) n) crossing
    → IfSome (option_or crossing (if room then Some (b + rule.h) else None)) (λ k. (b < k) × (k < n))
next_at test n b rule true None near is first = (
  omega (arith, near.ahead, near.below),
  grind (arith, nat_tests, near.above),
)
next_at test n b rule false None near is first = tt
next_at test n b rule room (Some k) near is first =
    (omega (arith, near.ahead, first.after), omega (arith, first.below))

-- the next boundary lies ahead, and is a place in the signal
pub next_within : (s : List ℤ) (rule : Rule) (b : ℕ) (rising : Bool) → IsRule rule →
    IfSome (next_boundary s rule b rising) (λ k. (b < k) × (k < length s))
unfolding next_boundary
next_within s rule b rising given =
    let test = crosses_at s rising in
    next_at test (length s) b rule (nat_lt (b + rule.hi) (length s)) _ (rule_is_near rule given) refl
    (first_between_is test (b + rule.lo) (min (b + rule.hi + 1) (length s)))

-- ---- things at rising places below n: what the limit of their list leaves out does not exist

-- a fact of each pair of images, by images one after another
all_pairs_map : {X Y : Type 0} (R : Y → Y → Type 0) (f : X → Y) (xs : List X) →
    AllPairs (λ x y. R (f x) (f y)) xs → AllPairs R (map f xs)
all_pairs_map R f [] h = λ i j d less inside. absurd (omega (arith, inside))
all_pairs_map R f (x ∷ xs) h =
    AllPairs-cons R (f x) (map f xs)
    (All-map (R (f x)) f xs (λ k d inside. h 0 (suc k) d (omega arith) (omega (arith, inside))))
    (all_pairs_map R f xs
    (λ i j d less inside. h (suc i) (suc j) d (omega (arith, less)) (omega (arith, inside))))

module _ {X : Type 0} (next : X → Option X) (place : X → ℕ) (n : ℕ)
    (ahead : (x : X) → IfSome (next x) (λ y. (place x < place y) × (place y < n))) where
  abbrev Lies : ℕ → Option X → Type 0
  Lies low o = IfSome o (λ x. (low ≤ place x) × (place x < n))

  lies_next : (low : ℕ) (x : X) → low ≤ place x → Lies (low + 1) (next x)
  lies_next low x from = if_some_map (λ y. (place x < place y) × (place y < n))
      (λ y. (low + 1 ≤ place y) × (place y < n)) (λ y h. (omega (arith, from, h.0), h.1)) (next x) (ahead x)

  begins : (m low : ℕ) (o : Option X) → Lies low o → n ≤ low + m → slice_get (successors next m o) 0 ≡ o
  unfolding successors
  begins m low None lies room = refl
  begins zero low (Some x) lies room = absurd (omega (arith, lies.0, lies.1, room))
  begins (suc m) low (Some x) lies room = refl

  goes_on : (m k low : ℕ) (o : Option X) → Lies low o → n ≤ low + m → slice_get (successors next m o) (suc k)
      ≡ option_and_then next (slice_get (successors next m o) k)
  unfolding successors
  goes_on m k low None lies room = refl
  goes_on zero k low (Some x) lies room = absurd (omega (arith, lies.0, lies.1, room))
  goes_on (suc m) zero low (Some x) lies room = begins m (low + 1) (next x) (lies_next low x lies.0)
      (omega (arith, room))
  goes_on (suc m) (suc k) low (Some x) lies room = goes_on m k (low + 1) (next x) (lies_next low x lies.0)
      (omega (arith, room))

  -- all limits that leave nothing out give one list
  same_list : (m k low : ℕ) (o : Option X) → Lies low o → n ≤ low + m → n ≤ low + k →
      successors next m o ≡ successors next k o
  unfolding successors
  same_list m k low None lies room more = refl
  same_list zero k low (Some x) lies room more = absurd (omega (arith, lies.0, lies.1, room))
  same_list (suc m) zero low (Some x) lies room more = absurd (omega (arith, lies.0, lies.1, more))
  same_list (suc m) (suc k) low (Some x) lies room more =
      ap (λ xs. x ∷ xs) (same_list m k (low + 1) (next x) (lies_next low x lies.0)
      (omega (arith, room)) (omega (arith, more)))

  -- under one limit a thing is followed by those after it
  list_step : (m : ℕ) (x : X) → place x < n → n ≤ m →
      successors next m (Some x) ≡ x ∷ successors next m (next x)
  unfolding successors
  list_step zero x inside room = absurd (omega (arith, inside, room))
  list_step (suc m) x inside room =
      ap (λ xs. x ∷ xs) (same_list m (suc m) (0 + 1) (next x) (lies_next 0 x (omega arith))
      (omega (arith, room)) (omega (arith, room)))

  -- they lie from low on, below n, and each is before the next
  lie_above : (m low : ℕ) (o : Option X) → Lies low o → All (λ x. low ≤ place x) (successors next m o)
  unfolding successors
  lie_above m low None lies = All-nil (λ x. low ≤ place x)
  lie_above zero low (Some x) lies = All-nil (λ x. low ≤ place x)
  lie_above (suc m) low (Some x) lies =
      All-cons (λ x. low ≤ place x) x (successors next m (next x)) lies.0
      (All-weaker (λ x. low + 1 ≤ place x) (λ x. low ≤ place x) (λ x h. omega (arith, h))
      (successors next m (next x)) (lie_above m (low + 1) (next x) (lies_next low x lies.0)))

  lie_below : (m low : ℕ) (o : Option X) → Lies low o → All (λ x. place x < n) (successors next m o)
  unfolding successors
  lie_below m low None lies = All-nil (λ x. place x < n)
  lie_below zero low (Some x) lies = All-nil (λ x. place x < n)
  lie_below (suc m) low (Some x) lies =
      All-cons (λ x. place x < n) x (successors next m (next x)) lies.1
      (lie_below m (low + 1) (next x) (lies_next low x lies.0))

  lie_in_order : (m low : ℕ) (o : Option X) → Lies low o →
      AllPairs (λ x y. place x < place y) (successors next m o)
  unfolding successors
  lie_in_order m low None lies = λ i j d less inside. absurd (omega (arith, inside))
  lie_in_order zero low (Some x) lies = λ i j d less inside. absurd (omega (arith, inside))
  lie_in_order (suc m) low (Some x) lies =
      let rest = lies_next (place x) x (omega arith) in
      AllPairs-cons (λ x y. place x < place y) x (successors next m (next x))
      (All-weaker (λ y. place x + 1 ≤ place y) (λ y. place x < place y) (λ y h. omega (arith, h))
      (successors next m (next x)) (lie_above m (place x + 1) (next x) rest))
      (lie_in_order m (place x + 1) (next x) rest)

-- ---- the list of boundaries

after_within : (s : List ℤ) (rule : Rule) → IsRule rule → (b : Boundary) →
    IfSome (boundary_after s rule b) (λ c. (b.place < c.place) × (c.place < length s))
after_within s rule given b = at (next_boundary s rule b.place (not b.rising))
    (next_within s rule b.place (not b.rising) given)
  where
    at : (o : Option ℕ) → IfSome o (λ k. (b.place < k) × (k < length s)) →
        IfSome (option_map (boundary_at (not b.rising)) o) (λ c. (b.place < c.place) × (c.place < length s))
    at None h = tt
    at (Some k) h = h

starts_within : (s : List ℤ) (rule : Rule) → IfSome (boundary_zero s rule)
    (λ b. (0 ≤ b.place) × (b.place < length s))
starts_within s rule = at (first_boundary s rule) (first_within s rule)
  where
    at : (o : Option ℕ) → IfSome o (λ k. k < length s) →
        IfSome (option_map (boundary_at true) o) (λ b. (0 ≤ b.place) × (b.place < length s))
    at None h = tt
    at (Some k) h = (omega arith, h)

-- the boundaries from one on: that one, and those from the one after it on
pub boundaries_from_step : (s : List ℤ) (rule : Rule) (b : Boundary) → IsRule rule → b.place < length s →
    boundaries_from s rule (Some b) ≡ b ∷ boundaries_from s rule (boundary_after s rule b)
unfolding boundaries_from
boundaries_from_step s rule b given inside =
    list_step (boundary_after s rule) (λ b. b.place) (length s) (after_within s rule given) (length s) b
    inside (omega arith)

pub boundaries_from_none : (s : List ℤ) (rule : Rule) → boundaries_from s rule None ≡ []
unfolding boundaries_from successors
boundaries_from_none s rule = refl

module _ (s : List ℤ) (rule : Rule) (given : IsRule rule) where
  all_below : All (λ b. b.place < length s) (boundaries s rule)
  unfolding boundaries
  all_below = lie_below (boundary_after s rule) (λ b. b.place) (length s) (after_within s rule given)
      (length s) 0 (boundary_zero s rule) (starts_within s rule)

  all_in_order : AllPairs (λ a b. a.place < b.place) (boundaries s rule)
  unfolding boundaries
  all_in_order = lie_in_order (boundary_after s rule) (λ b. b.place) (length s) (after_within s rule given)
      (length s) 0 (boundary_zero s rule) (starts_within s rule)

  -- boundaries rise, within the signal
  pub boundaries_lie : AreBoundaries (boundary_places s rule) (length s)
  boundaries_lie = record {
    rising = all_pairs_map (λ a b. a < b) (λ b. b.place) (boundaries s rule) all_in_order;
    below = All-map (λ k. k < length s) (λ b. b.place) (boundaries s rule) all_below;
  }

  -- and so do cycle boundaries
  pub cycles_lie : AreBoundaries (cycle_boundaries s rule) (length s)
  unfolding cycle_boundaries
  cycles_lie = record {
    rising = all_pairs_map (λ a b. a < b) (λ b. b.place) (filter (λ b. b.rising) (boundaries s rule))
        (AllPairs-filter (λ a b. a.place < b.place) (λ b. b.rising) (boundaries s rule) all_in_order);
    below = All-map (λ k. k < length s) (λ b. b.place) (filter (λ b. b.rising) (boundaries s rule))
        (All-filter (λ b. b.rising) (λ b. b.place < length s) (boundaries s rule) all_below);
  }

-- boundary 0, which counts as rising
pub boundaries_begin : (s : List ℤ) (rule : Rule) → IsRule rule → slice_get (boundaries s rule) 0
    ≡ option_map (boundary_at true) (first_boundary s rule)
unfolding boundaries
boundaries_begin s rule given =
    begins (boundary_after s rule) (λ b. b.place) (length s) (after_within s rule given) (length s) 0
    (boundary_zero s rule) (starts_within s rule) (omega arith)

-- boundary k + 1 is the one after boundary k; the list ends where none follows
pub boundaries_step : (s : List ℤ) (rule : Rule) (k : ℕ) → IsRule rule → slice_get (boundaries s rule) (suc k)
    ≡ option_and_then (boundary_after s rule) (slice_get (boundaries s rule) k)
unfolding boundaries
boundaries_step s rule k given =
    goes_on (boundary_after s rule) (λ b. b.place) (length s) (after_within s rule given) (length s) k 0
    (boundary_zero s rule) (starts_within s rule) (omega arith)

-- ---- directions alternate

alternate : (s : List ℤ) (rule : Rule) (m : ℕ) (rising : Bool) (o : Option ℕ) →
    Alternate rising (successors (boundary_after s rule) m (option_map (boundary_at rising) o))
unfolding successors
alternate s rule m rising None = tt
alternate s rule zero rising (Some k) = tt
alternate s rule (suc m) rising (Some k) = (
  refl,
  alternate s rule m (not rising)
      (next_boundary s rule k (not rising)),
)

-- boundaries alternate, from a rising one on
pub boundaries_alternate : (s : List ℤ) (rule : Rule) → Alternate true (boundaries s rule)
unfolding boundaries
boundaries_alternate s rule = alternate s rule (length s) true (first_boundary s rule)

kept : (b : Boundary) (bs : List Boundary) (j k : ℕ) → b.rising ≡ true → suc k ≡ j →
    slice_get (filter (λ c. c.rising) bs) k ≡ slice_get bs (2 * k + 1)
    → slice_get (filter (λ c. c.rising) (b ∷ bs)) j ≡ slice_get (b ∷ bs) (2 * j + 0)
kept b bs j k up e rest =
    let kept : filter (λ c. c.rising) (b ∷ bs) ≡ b ∷ filter (λ c. c.rising) bs =
    ap (λ r. cond r (b ∷ filter (λ c. c.rising) bs) (filter (λ c. c.rising) bs)) up in
    let place : suc (2 * k + 1) ≡ 2 * j + 0 = omega (arith, e) in
    ap (λ cs. slice_get cs j) kept ∙ (subst (λ i. slice_get (b ∷ filter (λ c. c.rising) bs) i
    ≡ slice_get bs (2 * k + 1)) e rest ∙ ap (slice_get (b ∷ bs)) place)

-- of a list that alternates, the rising ones are those at even positions from the first rising one on
rising_ones : (bs : List Boundary) (rising : Bool) (j : ℕ) → Alternate rising bs →
    slice_get (filter (λ b. b.rising) bs) j ≡ slice_get bs (2 * j + (if rising then 0 else 1))
rising_ones [] rising j h = refl
rising_ones (b ∷ bs) true zero h = ap (λ r. slice_get
    (cond r (b ∷ filter (λ c. c.rising) bs) (filter (λ c. c.rising) bs)) zero) h.0
rising_ones (b ∷ bs) true (suc j) h = kept b bs (suc j) j h.0 refl (rising_ones bs false j h.1)
rising_ones (b ∷ bs) false j h =
    let dropped : filter (λ c. c.rising) (b ∷ bs) ≡ filter (λ c. c.rising) bs =
    ap (λ r. cond r (b ∷ filter (λ c. c.rising) bs) (filter (λ c. c.rising) bs)) h.0 in
    let place : suc (2 * j + 0) ≡ 2 * j + 1 = omega arith in
    ap (λ cs. slice_get cs j) dropped ∙ (rising_ones bs true j h.1 ∙ ap (slice_get (b ∷ bs)) place)

-- cycle boundaries are the even ones: 0, 2, 4 and so on
pub cycle_boundaries_even : (s : List ℤ) (rule : Rule) (j : ℕ) → slice_get (cycle_boundaries s rule) j
    ≡ bound s rule (2 * j)
unfolding cycle_boundaries
cycle_boundaries_even s rule j =
    let even : 2 * j + 0 ≡ 2 * j = omega arith in
    slice_get-map (λ b. b.place) (filter (λ b. b.rising) (boundaries s rule)) j
    ∙ ap (option_map (λ b. b.place)) (rising_ones (boundaries s rule) true j (boundaries_alternate s rule)
    ∙ ap (slice_get (boundaries s rule)) even)
