-- There are few runs: each begins a length after the one before it, or at a start.
use Rattle.std.proofs.Common.{◌≡◌, ℕ, zero, suc, ◌+◌, ◌-◌, ◌*◌, ◌<◌, ◌≤◌, ◌==◌, ◌||◌, Bool, true, false, cond, List, [], ◌∷◌, length, map, filter, refl, ◌∙◌, ap, subst, sym, inl, inr, arith}
use Rattle.std.specs.Bool.{⊤}
use Rattle.std.specs.List.{list_any}
use Rattle.std.proofs.lemmas.Bool.Decides.{nat_tests}
use Rattle.std.proofs.Math.Nat.{mul-le-mul_right}
use Rattle.std.proofs.lemmas.List.{length-map}
use Rattle.pq_sequence.proofs.FrontLemmas.{RisesFrom}
use Rattle.pq_sequence.proofs.NeighbourLaws.{IsIn, IsNext, LinkedFrom, next_from, in_any}
use Rattle.pq_sequence.proofs.RunOrder.{begins_at_start}
use Rattle.pq_words.specs.Steps.{numbers_from, numbers_below}
use Rattle.settled_laws.proofs.NextRun.{next_far}
use Rattle.ten_twelve.specs.Run.{begins_run, run_from, runs}

-- some of the numbers are starts
abbrev is_start : List ℕ → ℕ → Bool
is_start starts y = list_any (λ g. g == y) starts

-- how many of some numbers are starts
hits : List ℕ → List ℕ → ℕ
hits starts ys = length (filter (is_start starts) ys)

same_number : (y : ℕ) → (y == y) ≡ true
same_number y = grind (arith, nat_tests)

hit : (starts : List ℕ) (y : ℕ) (ys : List ℕ) → IsIn y starts → hits starts (y ∷ ys) ≡ hits starts ys + 1
unfolding hits
hit starts y ys is =
    ap (λ b. length (cond b (y ∷ filter (is_start starts) ys) (filter (is_start starts) ys)))
    (in_any (λ g. g == y) starts y is (same_number y))
    ∙ step
  where
    step : length (y ∷ filter (is_start starts) ys) ≡ length (filter (is_start starts) ys) + 1
    step = omega arith

no_less : (starts : List ℕ) (y : ℕ) (ys : List ℕ) → hits starts ys ≤ hits starts (y ∷ ys)
unfolding hits
no_less starts y ys = at (is_start starts y)
  where
    at : (b : Bool) → length (filter (is_start starts) ys)
        ≤ length (cond b (y ∷ filter (is_start starts) ys) (filter (is_start starts) ys))
    at true = omega arith
    at false = omega arith

-- ---- each start is hit once

either_few : (a b : ℕ → Bool) (ys : List ℕ) →
    length (filter (λ y. a y || b y) ys) ≤ length (filter a ys) + length (filter b ys)
either_few a b [] = omega arith
either_few a b (y ∷ ys) = at (a y) (b y) (either_few a b ys)
  where
    at : (p q : Bool) →
        length (filter (λ y. a y || b y) ys) ≤ length (filter a ys) + length (filter b ys) →
        length (cond (p || q) (y ∷ filter (λ y. a y || b y) ys) (filter (λ y. a y || b y) ys))
        ≤ length (cond p (y ∷ filter a ys) (filter a ys)) + length (cond q (y ∷ filter b ys) (filter b ys))
    at true true h = omega (arith, h)
    at true false h = omega (arith, h)
    at false true h = omega (arith, h)
    at false false h = h

-- numbers that rise, from above x
abbrev Above : ℕ → List ℕ → Type 0
Above x [] = ⊤
Above x (y ∷ ys) = (x < y) × Above y ys

none_above : (g x : ℕ) (ys : List ℕ) → g ≤ x → Above x ys → length (filter (λ y. g == y) ys) ≤ 0
none_above g x [] low h = omega arith
none_above g x (y ∷ ys) low h =
    let over = h.0 in
    let rest = none_above g y ys (omega (arith, low, over)) h.1 in
    let e : length (filter (λ y. g == y) (y ∷ ys)) ≡ length (filter (λ y. g == y) ys) =
    ap (λ b. length (cond b (y ∷ filter (λ y. g == y) ys) (filter (λ y. g == y) ys)))
    (other g y (omega (arith, low, over))) in
    omega (arith, rest, e)
  where
    other : (a b : ℕ) → a < b → (a == b) ≡ false
    other a b h = grind (arith, nat_tests, h)

once : (g x : ℕ) (ys : List ℕ) → Above x ys → length (filter (λ y. g == y) (x ∷ ys)) ≤ 1
once g x [] h = at (g == x)
  where
    at : (b : Bool) → length (cond b (x ∷ []) []) ≤ 1
    at true = omega arith
    at false = omega arith
once g x (z ∷ zs) h = at (g == x) refl (once g z zs h.1)
  where
    same_of : (g == x) ≡ true → g ≡ x
    same_of is = grind (arith, nat_tests, is)

    at : (b : Bool) → (g == x) ≡ b → length (filter (λ y. g == y) (z ∷ zs)) ≤ 1 →
        length (cond b (x ∷ filter (λ y. g == y) (z ∷ zs)) (filter (λ y. g == y) (z ∷ zs))) ≤ 1
    at true is rest =
        let e = same_of is in
        let none = none_above g x (z ∷ zs) (omega (arith, e)) h in
        omega (arith, none)
    at false is rest = rest

none_hit : (ys : List ℕ) → hits [] ys ≤ 0
unfolding hits
none_hit [] = omega arith
none_hit (y ∷ ys) = none_hit ys

few_hits : (starts : List ℕ) (x : ℕ) (ys : List ℕ) → Above x ys → hits starts (x ∷ ys) ≤ length starts
unfolding hits
few_hits [] x ys h = none_hit (x ∷ ys)
few_hits (g ∷ gs) x ys h =
    let a = either_few (λ y. g == y) (λ y. list_any (λ g. g == y) gs) (x ∷ ys) in
    let b = once g x ys h in
    let c = few_hits gs x ys h in
    omega (arith, a, b, c)

-- ---- along the runs

module _ (starts : List ℕ) (m n : ℕ) (some : 1 ≤ m) (rises : RisesFrom 0 starts) where
  above : (x : ℕ) (ys : List ℕ) → LinkedFrom (IsNext (begins_run starts m) n) x ys → Above x ys
  above x [] l = tt
  above x (y ∷ ys) l = (l.0.after, above y ys l.1)

  reached : (x : ℕ) (ys : List ℕ) → x < n → LinkedFrom (IsNext (begins_run starts m) n) x ys →
      x + length ys * m < n + hits starts ys * m
  reached x [] below l = omega (arith, below)
  reached x (y ∷ ys) below l =
      let next = l.0 in
      let order = next.after in
      let rest = reached y ys next.below l.1 in
      elim (next_far starts m n x y some rises next) [
        | inl far ↦
            let more : hits starts ys * m ≤ hits starts (y ∷ ys) * m =
            mul-le-mul_right m (no_less starts y ys) in
            omega (arith, rest, far, more)
        | inr is ↦
            let e : hits starts (y ∷ ys) * m ≡ (hits starts ys + 1) * m =
            ap (λ k. k * m) (hit starts y ys is) in
            omega (arith, rest, order, e)
      ]

  -- where 0 is a start: so many runs, a length each, pass the last beginning by a length for each other start
  few_from : IsIn 0 starts → (k : ℕ) → k ≡ n →
      length (filter (begins_run starts m) (numbers_from 0 k)) * m < n + length starts * m
  unfolding numbers_from
  few_from zero_is zero e = some_start starts zero_is
    where
      some_start : (gs : List ℕ) → IsIn 0 gs → 0 * m < n + length gs * m
      some_start [] is = absurd is
      some_start (g ∷ gs) is = omega (arith, some)
  few_from zero_is (suc k) e =
      let ys = filter (begins_run starts m) (numbers_from (0 + 1) k) in
      let begins : begins_run starts m 0 ≡ true = begins_at_start starts m 0 some rises zero_is in
      let l = next_from (begins_run starts m) n 0 (0 + 1) k (omega arith) (omega (arith, e)) begins
      (λ j over under. absurd (omega (arith, over, under))) in
      let a = reached 0 ys (omega (arith, e)) l in
      let b : hits starts (0 ∷ ys) ≤ length starts = few_hits starts 0 ys (above 0 ys l) in
      let c = hit starts 0 ys zero_is in
      let d : (hits starts ys + 1) * m ≤ length starts * m = mul-le-mul_right m (omega (arith, b, c)) in
      subst (λ passes. length (cond passes (0 ∷ ys) ys) * m < n + length starts * m) (sym begins)
      (omega (arith, a, d))

none_of_none : (p : ℕ → Bool) (m bound : ℕ) →
    length (map (run_from m) (filter p (numbers_from 0 0))) * m ≤ bound
unfolding numbers_from
none_of_none p m bound = omega arith

-- so many runs, a length each, take no more than the elements and a length for each start but one
pub runs_few : (starts : List ℕ) (m count : ℕ) → 1 ≤ m → RisesFrom 0 starts → IsIn 0 starts →
    length (runs starts m count) * m ≤ count + (length starts - 1) * m
unfolding runs
runs_few starts m count some rises zero_is =
    let all = filter (begins_run starts m) (numbers_below (count + 1 - m)) in
    let e : length (map (run_from m) all) * m ≡ length all * m =
    ap (λ k. k * m) (length-map all (run_from m)) in
    at (count + 1 - m) refl
    (few_from starts m (count + 1 - m) some rises zero_is (count + 1 - m) refl) e (there starts zero_is)
  where
    there : (gs : List ℕ) → IsIn 0 gs → length gs * m ≡ (length gs - 1) * m + m
    there [] is = absurd is
    there (g ∷ gs) is =
        let one : suc (length gs) - 1 ≡ length gs = omega arith in
        let e : (suc (length gs) - 1) * m ≡ length gs * m = ap (λ k. k * m) one in
        omega (arith, e)

    at : (n : ℕ) → count + 1 - m ≡ n →
        length (filter (begins_run starts m) (numbers_below n)) * m < n + length starts * m →
        length (map (run_from m) (filter (begins_run starts m) (numbers_below n))) * m
        ≡ length (filter (begins_run starts m) (numbers_below n)) * m →
        length starts * m ≡ (length starts - 1) * m + m →
        length (map (run_from m) (filter (begins_run starts m) (numbers_below n))) * m
        ≤ count + (length starts - 1) * m
    at zero is h e s = none_of_none (begins_run starts m) m (count + (length starts - 1) * m)
    at (suc n) is h e s = omega (arith, is, h, e, s)
