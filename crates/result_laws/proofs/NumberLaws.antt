-- Numbers one after another, and the indices at which runs begin.
use Rattle.std.proofs.Common.{◌≡◌, ℕ, zero, suc, ◌+◌, ◌-◌, ◌%◌, ◌<◌, ◌≤◌, ◌==◌, ◌||◌, nat_le, Bool, true, false, cond, List, [], ◌∷◌, filter, Option, Some, None, refl, sym, ◌∙◌, ap, subst, inl, inr, arith, mod-eq_of_lt}
use Rattle.std.specs.List.{AllByRecursion, last_or, list_any}
use Rattle.std.specs.Option.{option_map_or}
use Rattle.std.proofs.lemmas.Bool.{cases_lt}
use Rattle.std.proofs.lemmas.Bool.Decides.{nat_tests}
use Rattle.ten_twelve.specs.Run.{begins_run}
use Rattle.pq_words.specs.Steps.{numbers_from, numbers_below}
use Rattle.result_laws.proofs.PairLaws.{IsIn, Pairwise, all_filter, all_in, pairwise_filter}

over : (low n x : ℕ) → x < low → AllByRecursion (λ y. x < y) (numbers_from low n)
unfolding numbers_from
over low zero x less = tt
over low (suc n) x less = (less, over (low + 1) n x (omega (arith, less)))

pub numbers_rise : (low n : ℕ) → Pairwise (λ a b. a < b) (numbers_from low n)
unfolding numbers_from
numbers_rise low zero = tt
numbers_rise low (suc n) = (over (low + 1) n low (omega arith), numbers_rise (low + 1) n)

pub in_numbers : (low n x : ℕ) → low ≤ x → x < low + n → IsIn x (numbers_from low n)
unfolding numbers_from
in_numbers low zero x from below = absurd (omega (arith, from, below))
in_numbers low (suc n) x from below = elim (cases_lt low x) [
  | inl less ↦ inr (in_numbers (low + 1) n x (omega (arith, less)) (omega (arith, below)))
  | inr back ↦ inl (let e : x ≡ low = omega (arith, from, back) in e)
]

pub in_filter : {X : Type 0} (p : X → Bool) (x : X) (xs : List X) → IsIn x xs → p x ≡ true →
    IsIn x (filter p xs)
in_filter p x [] is passes = absurd is
in_filter p x (z ∷ zs) (inl same) passes =
    let here : p z ≡ true = ap p (sym same) ∙ passes in
    subst (λ b. IsIn x (cond b (z ∷ filter p zs) (filter p zs))) (sym here) (inl same)
in_filter p x (z ∷ zs) (inr later) passes = at (p z) (in_filter p x zs later passes)
  where
    at : (b : Bool) → IsIn x (filter p zs) → IsIn x (cond b (z ∷ filter p zs) (filter p zs))
    at true rest = inr rest
    at false rest = rest

-- ---- where runs begin

-- the indices at which runs begin, of all elements being there
abbrev pub run_indices : List ℕ → ℕ → ℕ → List ℕ
run_indices starts m count = filter (begins_run starts m) (numbers_below (count + 1 - m))

pub indices_rise : (starts : List ℕ) (m count : ℕ) → Pairwise (λ a b. a < b) (run_indices starts m count)
indices_rise starts m count =
    pairwise_filter (λ (a b : ℕ). a < b) (begins_run starts m) (numbers_below (count + 1 - m))
    (numbers_rise 0 (count + 1 - m))

pub numbers_bound : (low n most : ℕ) → low + n ≤ most → AllByRecursion (λ x. x < most) (numbers_from low n)
unfolding numbers_from
numbers_bound low zero most until = tt
numbers_bound low (suc n) most until =
    (omega (arith, until), numbers_bound (low + 1) n most (omega (arith, until)))

pub indices_bound : (starts : List ℕ) (m count : ℕ) →
    AllByRecursion (λ x. x < count + 1 - m) (run_indices starts m count)
indices_bound starts m count =
    all_filter (λ x. x < count + 1 - m) (begins_run starts m) (numbers_below (count + 1 - m))
    (numbers_bound 0 (count + 1 - m) (count + 1 - m) (omega arith))

le_is : (a b : ℕ) → a ≤ b → nat_le a b ≡ true
le_is a b h = grind (arith, nat_tests, h)

past_fails : (g : ℕ) (zs : List ℕ) → AllByRecursion (λ z. g < z) zs → filter (λ s. nat_le s g) zs ≡ []
past_fails g [] h = refl
past_fails g (z ∷ zs) h =
    let fails : nat_le z g ≡ false = not_le z g h.0 in
    ap (λ b. cond b (z ∷ filter (λ s. nat_le s g) zs) (filter (λ s. nat_le s g) zs)) fails
    ∙ past_fails g zs h.1
  where
    not_le : (a b : ℕ) → b < a → nat_le a b ≡ false
    not_le a b h = grind (arith, nat_tests, h)

-- the latest start at a start is this one
latest_is : (o : Option ℕ) (starts : List ℕ) (g : ℕ) → Pairwise (λ a b. a < b) starts → IsIn g starts →
    last_or o (filter (λ s. nat_le s g) starts) ≡ Some g
latest_is o [] g rise is = absurd is
latest_is o (z ∷ zs) g rise (inl same) =
    let bound : AllByRecursion (λ y. g < y) zs =
    subst (λ k. AllByRecursion (λ y. k < y) zs) (sym same) rise.0 in
    let passes : nat_le z g ≡ true = le_is z g (omega (arith, same)) in
    ap (λ b. last_or o (cond b (z ∷ filter (λ s. nat_le s g) zs) (filter (λ s. nat_le s g) zs))) passes
    ∙ ap (last_or (Some z)) (past_fails g zs bound) ∙ ap Some (sym same)
latest_is o (z ∷ zs) g rise (inr later) =
    let less : z < g = all_in (λ y. z < y) g zs rise.0 later in
    let passes : nat_le z g ≡ true = le_is z g (omega (arith, less)) in
    ap (λ b. last_or o (cond b (z ∷ filter (λ s. nat_le s g) zs) (filter (λ s. nat_le s g) zs))) passes
    ∙ latest_is (Some z) zs g rise.1 later

-- a run begins at each start
pub begins_at_start : (starts : List ℕ) (m g : ℕ) → 1 ≤ m → Pairwise (λ a b. a < b) starts →
    IsIn g starts → begins_run starts m g ≡ true
begins_at_start starts m g some rise is =
    let none : g - g ≡ 0 = omega arith in
    let rest : (g - g) % m ≡ 0 = ap (λ k. k % m) none ∙ mod-eq_of_lt some in
    ap (λ o. option_map_or (λ s. (g - s) % m == 0) o false) (latest_is None starts g rise is)
    ∙ grind (arith, nat_tests, rest)

-- a number of a list is found in it
pub found_in : (g : ℕ) (xs : List ℕ) → IsIn g xs → list_any (λ x. x == g) xs ≡ true
found_in g [] is = absurd is
found_in g (z ∷ zs) (inl same) =
    let e : (z == g) ≡ true = grind (arith, nat_tests, same) in
    ap (λ b. b || list_any (λ x. x == g) zs) e
found_in g (z ∷ zs) (inr later) = at (z == g) (found_in g zs later)
  where
    at : (b : Bool) → list_any (λ x. x == g) zs ≡ true → (b || list_any (λ x. x == g) zs) ≡ true
    at true h = refl
    at false h = h
