-- Fronts: where boundaries are told apart by a place, and that the fronts of ticks rise.
use Rattle.std.proofs.Common.{◌≡◌, ℕ, zero, suc, ◌+◌, ◌-◌, ◌<◌, ◌≤◌, ◌==◌, Bool, true, false, List, [], ◌∷◌, ◌++◌, length, map, filter_map, get_or, Option, Some, None, unwrap_or, option_to_list, All, ℤ, pos, ◌+ℤ◌, ◌≤ℤ◌, sym, ◌∙◌, ap, subst, refl, inl, inr, arith, append_assoc}
use Rattle.std.specs.Prelude.{nat_le, nat_lt}
use Rattle.std.specs.Bool.{then_some}
use Rattle.std.specs.List.{AllPairs, cons_option}
use Rattle.std.specs.List.Sorted.{IsNonDecreasing, IsPartitionPoint, IsSorted}
use Rattle.std.specs.Ordering.{is_lt, nat_cmp}
use Rattle.std.proofs.lemmas.Bool.{cases_lt, ltb-false, ltb-true}
use Rattle.std.proofs.lemmas.Bool.Decides.{nat_tests}
use Rattle.std.proofs.lemmas.Int.{ints}
use Rattle.std.proofs.lemmas.List.{get_or_default}
use Rattle.std.proofs.lemmas.List.Elements.{All-cons, All-nil}
use Rattle.std.proofs.lemmas.List.Filters.{All-dedup}
use Rattle.std.proofs.lemmas.Map.Keys.{IsStrictlyIncreasing-dedup}
use Rattle.pq_sequence.specs.BasicInterval.{front_of, fronts}
use Rattle.pq_sequence.specs.MeasuredRecording.{tick_places}
use Rattle.pq_time.specs.declared.clock.Clock.{Clock}
use Rattle.pq_time.specs.Tick.{HasTicks, IsTick, moment_of, tick_place, ticks}
use Rattle.pq_time.proofs.PlaceLaws.{place_rises}
use Rattle.pq_words.specs.First.{IsFirst, first_between}
use Rattle.pq_words.specs.Steps.{steps_from}
use Rattle.pq_words.proofs.FirstLaws.{first_between_is, first_between_only, first_earlier}
use Rattle.ten_twelve.specs.Run.{AreStarts}

-- ---- the front of a place

at_or_after : (boundary place : ℕ) → nat_lt boundary place ≡ false → nat_le place boundary ≡ true
at_or_after boundary place h = grind (arith, nat_tests, h)

not_at_or_after : (boundary place : ℕ) → nat_lt boundary place ≡ true → nat_le place boundary ≡ true → ⊥
not_at_or_after boundary place h is = grind (arith, nat_tests, h, is)

-- boundaries that lie before a place, and then those that do not
abbrev pub AreParted : ℕ → List ℕ → ℕ → Type 0
AreParted place boundaries i = IsPartitionPoint (λ b. nat_lt b place ≡ true) (λ b. nat_lt b place ≡ false)
    boundaries i

-- a boundary, by index, lies at a place or after it
abbrev reaches : List ℕ → ℕ → ℕ → Bool
reaches boundaries place j = nat_le place (get_or boundaries j 0)

-- the first of those that do not is the front, where there is one
pub front_is : (boundaries : List ℕ) (place i : ℕ) → AreParted place boundaries i →
    then_some (nat_lt i (length boundaries)) i ≡ front_of boundaries place
unfolding front_of
front_is boundaries place i parted =
    first_between_only (reaches boundaries place) 0 (length boundaries)
    (then_some (nat_lt i (length boundaries)) i) (at (nat_lt i (length boundaries)) refl)
  where
    at : (b : Bool) → nat_lt i (length boundaries) ≡ b →
        IsFirst (reaches boundaries place) 0 (length boundaries) (then_some b i)
    at true is =
        let inside = ltb-true i (length boundaries) is in
        record {
          after = omega arith;
          below = inside;
          passes = at_or_after (get_or boundaries i 0) place (parted.1 i 0 (omega arith) inside);
          none_before = λ k from below. not_at_or_after (get_or boundaries k 0) place
              (parted.0 k 0 from below);
        }
    at false is = λ k from below. let past = ltb-false i (length boundaries) is in
        not_at_or_after (get_or boundaries k 0) place (parted.0 k 0 from (omega (arith, below, past)))

-- a front is a boundary
pub front_inside : (boundaries : List ℕ) (place k : ℕ) → front_of boundaries place ≡ Some k →
    k < length boundaries
unfolding front_of
front_inside boundaries place k is =
    let first : IsFirst (reaches boundaries place) 0 (length boundaries) (Some k) =
    subst (IsFirst (reaches boundaries place) 0 (length boundaries)) is
    (first_between_is (reaches boundaries place) 0 (length boundaries)) in
    first.below

-- ---- later places

later_than_both : (p q b : ℕ) → p ≤ q → nat_le q b ≡ true → nat_le p b ≡ true
later_than_both p q b h is = grind (arith, nat_tests, h, is)

-- the front of a later place is no earlier
pub front_rises : (boundaries : List ℕ) (p q i j : ℕ) → p ≤ q → front_of boundaries p ≡ Some i →
    front_of boundaries q ≡ Some j → i ≤ j
unfolding front_of
front_rises boundaries p q i j h at_p at_q =
    let n = length boundaries in
    let both = first_earlier (reaches boundaries p) (reaches boundaries q) 0 n
    (λ k. later_than_both p q (get_or boundaries k 0) h) in
    let first : i ≤ unwrap_or (first_between (reaches boundaries q) 0 n) n =
    subst (λ o. unwrap_or o n ≤ unwrap_or (first_between (reaches boundaries q) 0 n) n) at_p both in
    subst (λ o. i ≤ unwrap_or o n) at_q first

-- ---- numbers that do not fall

abbrev pub RisesFrom : ℕ → List ℕ → Type 0
RisesFrom n [] = Unit {0}
RisesFrom n (x ∷ xs) = (n ≤ x) × RisesFrom x xs

not_below : (a b : ℕ) → b ≤ a → is_lt (nat_cmp a b) ≡ false
not_below a b h = grind (arith, nat_tests, h)

sorted_from : (n : ℕ) (xs : List ℕ) → RisesFrom n xs → IsSorted nat_cmp (n ∷ xs)
sorted_from n [] h k d from inside = absurd (omega (arith, inside))
sorted_from n (x ∷ xs) h zero d from inside = not_below x n h.0
sorted_from n (x ∷ xs) h (suc k) d from inside =
    let e : suc k + 1 ≡ suc (k + 1) = omega arith in
    subst (λ m. is_lt (nat_cmp (get_or (n ∷ x ∷ xs) m d) (get_or (n ∷ x ∷ xs) (suc k) d)) ≡ false) (sym e)
    (sorted_from x xs h.1 k d (omega arith) (omega (arith, inside)))

-- the places of seconds in equal steps
steps_rise : (clock : Clock) (n step m p : ℕ) (low : ℤ) → p ≤ tick_place clock n low →
    RisesFrom p (map (tick_place clock n) (steps_from low step m))
unfolding steps_from
steps_rise clock n step zero p low h = tt
steps_rise clock n step (suc m) p low h =
    let later : moment_of low ≤ℤ moment_of (low +ℤ pos step) = omega (arith, ints) in (
      h,
      steps_rise clock n step m (tick_place clock n low) (low +ℤ pos step)
          (place_rises clock (moment_of low) (moment_of (low +ℤ pos step)) n later),
    )

-- the places of ticks
pub places_rise : (clock : Clock) (n : ℕ) → RisesFrom 0 (tick_places clock n)
unfolding tick_places ticks
places_rise clock n = steps_rise clock n 600 _ 0 _ (omega arith)

-- the fronts of places
module _ (boundaries : List ℕ) where
  fronts_rise : (g p : ℕ) (places : List ℕ) → ((q j : ℕ) → p ≤ q → front_of boundaries q ≡ Some j → g ≤ j) →
      RisesFrom p places → RisesFrom g (filter_map (front_of boundaries) places)
  fronts_rise g p [] above h = tt
  fronts_rise g p (x ∷ xs) above h = at (front_of boundaries x) refl (λ k from. fronts_rise k x xs from h.1)
    where
      at : (o : Option ℕ) → front_of boundaries x ≡ o →
          ((k : ℕ) → ((q j : ℕ) → x ≤ q → front_of boundaries q ≡ Some j → k ≤ j) →
          RisesFrom k (filter_map (front_of boundaries) xs))
          → RisesFrom g (cons_option o (filter_map (front_of boundaries) xs))
      at None is rest = rest g (λ q j later there. above q j (omega (arith, later, h.0)) there)
      at (Some k) is rest = (
        above x k h.0 is,
        rest k
            (λ q j later there. front_rises boundaries x q k j later is there),
      )

  fronts_inside : (places : List ℕ) → All (λ k. k ≤ length boundaries - 1)
      (filter_map (front_of boundaries) places)
  fronts_inside [] = All-nil (λ k. k ≤ length boundaries - 1)
  fronts_inside (x ∷ xs) = at (front_of boundaries x) refl (fronts_inside xs)
    where
      at : (o : Option ℕ) → front_of boundaries x ≡ o →
          All (λ k. k ≤ length boundaries - 1) (filter_map (front_of boundaries) xs)
          → All (λ k. k ≤ length boundaries - 1) (cons_option o (filter_map (front_of boundaries) xs))
      at None is rest = rest
      at (Some k) is rest =
          let inside = front_inside boundaries x k is in
          All-cons (λ k. k ≤ length boundaries - 1) k (filter_map (front_of boundaries) xs)
          (omega (arith, inside)) rest

  -- the fronts of places that do not fall are starts of runs over the cycles
  pub fronts_start : (places : List ℕ) → RisesFrom 0 places →
      AreStarts (fronts boundaries places) (length boundaries - 1)
  unfolding fronts
  fronts_start places h = record {
    rising = IsStrictlyIncreasing-dedup (0 ∷ filter_map (front_of boundaries) places)
        (sorted_from 0 (filter_map (front_of boundaries) places)
        (fronts_rise 0 0 places (λ q j later there. omega arith) h));
    within = All-dedup (λ a b. a == b) (λ k. k ≤ length boundaries - 1)
        (0 ∷ filter_map (front_of boundaries) places) (All-cons (λ k. k ≤ length boundaries - 1) 0
        (filter_map (front_of boundaries) places) (omega arith) (fronts_inside places));
  }

-- boundaries do not fall
pub boundaries_ordered : (boundaries : List ℕ) → AllPairs (λ a b. a < b) boundaries →
    IsNonDecreasing boundaries
boundaries_ordered boundaries rising i j d from inside =
    elim (cases_lt i j) [
      | inl less ↦ let below = rising i j d less inside in omega (arith, below)
      | inr rest ↦ let same : i ≡ j = omega (arith, from, rest) in let at : get_or boundaries i d
          ≡ get_or boundaries j d = ap (λ k. get_or boundaries k d) same in omega (arith, at)
    ]

-- ---- the fronts of the ticks, one after another

consed : (o : Option ℕ) (xs : List ℕ) → cons_option o xs ≡ option_to_list o ++ xs
consed None xs = refl
consed (Some x) xs = refl

-- a tick more: its front, where it has one, and the fronts of the ticks that are left
pub one_tick : (boundaries : List ℕ) (clock : Clock) (n : ℕ) (second : ℤ) (left rest : List ℤ)
    (found new whole : List ℕ) (front : Option ℕ)
    → left ≡ second ∷ rest → front ≡ front_of boundaries (tick_place clock n second) → new ≡ found
    ++ option_to_list front
    → found ++ filter_map (front_of boundaries) (map (tick_place clock n) left) ≡ whole → new
    ++ filter_map (front_of boundaries) (map (tick_place clock n) rest) ≡ whole
one_tick boundaries clock n second left rest found new whole front splits is pushed so_far =
    let after = filter_map (front_of boundaries) (map (tick_place clock n) rest) in
    ap (λ xs. xs ++ after) pushed
    ∙ append_assoc found (option_to_list front) after
    ∙ ap (λ xs. found ++ xs) (sym (consed front after) ∙ ap (λ o. cons_option o after) is)
    ∙ ap (λ seconds. found ++ filter_map (front_of boundaries) (map (tick_place clock n) seconds))
    (sym splits)
    ∙ so_far

-- where the list has ticks and nothing else, each of it is one
pub all_ticks : (clock : Clock) (n period : ℕ) (seconds : List ℤ) → HasTicks clock n period seconds →
    All (IsTick clock n period) seconds
all_ticks clock n period seconds has k d inside = (has (get_or seconds k d)).0
    (k, inside, get_or_default seconds k (get_or seconds k d) d inside)
