-- Basic intervals come in order: each stands to the one before it as their aggregation asks.
use Rattle.std.proofs.Common.{◌≡◌, ℕ, zero, suc, ◌+◌, ◌-◌, ◌<◌, ◌≤◌, ◌==◌, Bool, true, false, cond, List, [], ◌∷◌, length, map, filter, slice_index, ℤ, refl, sym, ap, subst, inl, inr, arith}
use Rattle.std.specs.List.{list_any}
use Rattle.std.proofs.lemmas.Bool.{cases_lt}
use Rattle.std.proofs.lemmas.Bool.Decides.{nat_tests}
use Rattle.aggregate.specs.Aggregation.{Basic}
use Rattle.aggregate.specs.BasicOrder.{BeginsAtFront, Follows, HasTickBetween}
use Rattle.event_detect.specs.declared.event.Event.{Event}
use Rattle.pq_base.specs.Recorded.{Recorded, sample_count}
use Rattle.pq_sequence.specs.BasicInterval.{basic_runs, basic_span, begins_segment, cycles_of, fronts}
use Rattle.pq_sequence.specs.MeasuredRecording.{basic_over, basics_of, basics_over, clock_of, tick_places}
use Rattle.pq_sequence.proofs.FrontLemmas.{RisesFrom, places_rise}
use Rattle.pq_sequence.proofs.FrontOrder.{before_front, front_after, front_in, front_reaches, front_until, fronts_rise, in_fronts, zero_in}
use Rattle.pq_sequence.proofs.NeighbourLaws.{IsIn, IsNext, Linked, LinkedFrom, any_in, contained, in_any, in_contained, in_mapped, linked_mapped, mapped_in, next_from}
use Rattle.pq_sequence.proofs.RunOrder.{begins_at_start, next_follows}
use Rattle.pq_time.specs.declared.clock.Clock.{Clock}
use Rattle.pq_time.specs.Tick.{tick_place, ticks}
use Rattle.pq_words.specs.Steps.{numbers_from}
use Rattle.ten_twelve.specs.Run.{begins_run, run_from, runs}
use Rattle.zero_cross.specs.Boundary.{AreBoundaries}

-- ---- ticks and their places

place_of_tick : (clock : Clock) (n p : ℕ) → IsIn p (tick_places clock n) →
    (tick : ℤ) × IsIn tick (ticks clock n 600) × (tick_place clock n tick ≡ p)
unfolding tick_places
place_of_tick clock n p is = in_mapped (tick_place clock n) (ticks clock n 600) p is

tick_has_place : (clock : Clock) (n : ℕ) (tick : ℤ) → IsIn tick (ticks clock n 600) →
    IsIn (tick_place clock n tick) (tick_places clock n)
unfolding tick_places
tick_has_place clock n tick is = mapped_in (tick_place clock n) (ticks clock n 600) tick is

eq_of : (a b : ℕ) → (a == b) ≡ true → a ≡ b
eq_of a b h = grind (arith, nat_tests, h)

of_eq : (a b : ℕ) → a ≡ b → (a == b) ≡ true
of_eq a b h = grind (arith, nat_tests, h)

-- ---- a run that begins after another

module _ (clock : Clock) (n m : ℕ) (boundaries : List ℕ) (are : AreBoundaries boundaries n)
    (some : 1 ≤ m) where
  abbrev places : List ℕ
  places = tick_places clock n

  abbrev starts : List ℕ
  starts = fronts boundaries places

  rises : RisesFrom 0 starts
  rises = fronts_rise boundaries places (places_rise clock n)

  abbrev is_front : ℕ → Bool
  is_front y = list_any (λ g. g == y) starts

  front_is : (y : ℕ) → IsIn y starts → is_front y ≡ true
  front_is y is = in_any (λ g. g == y) starts y is (of_eq y y refl)

  is_start : (y : ℕ) → is_front y ≡ true → IsIn y starts
  is_start y h = let found = any_in (λ g. g == y) starts h in
      subst (λ k. IsIn k starts) (eq_of found.0 y found.2) found.1

  -- where it begins a segment, some tick's place lies between the two
  between_of_front : (x y : ℕ) → IsNext (begins_run starts m) (length boundaries - 1 + 1 - m) x y →
      is_front y ≡ true → HasTickBetween clock n (slice_index boundaries x) (slice_index boundaries y)
  between_of_front x y next h =
      elim (in_fronts boundaries places y (is_start y h)) [
        | inl first ↦ absurd (omega (arith, first, next.after))
        | inr found ↦
            let tick = place_of_tick clock n found.0 found.1 in
            let over = before_front boundaries found.0 y x found.2 next.after in
            let until = front_reaches boundaries found.0 y found.2 in (
              tick.0,
              contained tick.0 (ticks clock n 600) tick.1,
              omega (arith, over, tick.2),
              omega (arith, until, tick.2),
            )
      ]

  -- and the other way round
  front_of_between : (x y : ℕ) → IsNext (begins_run starts m) (length boundaries - 1 + 1 - m) x y →
      HasTickBetween clock n (slice_index boundaries x) (slice_index boundaries y) → is_front y ≡ true
  front_of_between x y next between =
      let tick = between.0 in
      let p : ℕ = tick_place clock n tick in
      let place = tick_has_place clock n tick (in_contained tick (ticks clock n 600) between.1) in
      let inside : y < length boundaries = omega (arith, next.below, some) in
      let found = front_until boundaries p y between.3 inside in
      let g = found.0 in
      let ahead : x < g = front_after boundaries p n g x are found.1 between.2
      (omega (arith, inside, next.after)) in
      let is = front_in boundaries places p g place found.1 in
      let until = found.2 in
      front_is y (elim (cases_lt g y) [
        | inl less ↦ absurd (let fails = next.between g ahead less in
            let begins = begins_at_start starts m g some rises is in let bad : ⊥ = cc in bad)
        | inr back ↦ let same : g ≡ y = omega (arith, back, until) in subst (λ k. IsIn k starts) same is
      ])

  -- where it begins none, it follows the other
  joined : (x y : ℕ) → IsNext (begins_run starts m) (length boundaries - 1 + 1 - m) x y → is_front y ≡ false →
      slice_index boundaries y ≡ slice_index boundaries (x + m)
  joined x y next h =
      ap (slice_index boundaries) (next_follows starts m _ x y some rises next
      (λ is. let front = front_is y is in let bad : ⊥ = cc in bad))

  -- the first run begins at a front
  begins_first : begins_run starts m 0 ≡ true
  begins_first = begins_at_start starts m 0 some rises (zero_in boundaries places)

  module _ (r : Recorded) (events : List Event) where
    abbrev basic_at : ℕ → Basic
    basic_at x = basic_over r events (basic_span boundaries (run_from m x)) (is_front x)

    follows : (x y : ℕ) → IsNext (begins_run starts m) (length boundaries - 1 + 1 - m) x y →
        Follows clock n (basic_at x) (basic_at y)
    follows x y next = record {
      starts = are.rising x y 0 next.after (omega (arith, next.below, some));
      ends = are.rising (x + m) (y + m) 0 (omega (arith, next.after)) (omega (arith, next.below, some));
      joined = joined x y next;
      front = (between_of_front x y next, front_of_between x y next);
    }

    mapped : (xs : List ℕ) →
        map (λ run. basic_over r events (basic_span boundaries run) (begins_segment starts run))
        (map (run_from m) xs) ≡ map basic_at xs
    mapped [] = refl
    mapped (x ∷ xs) = ap (λ bs. basic_at x ∷ bs) (mapped xs)

    -- basic intervals over runs from the fronts on come in order
    pub runs_in_order :
        BeginsAtFront (basics_over r events boundaries starts (runs starts m (length boundaries - 1)))
        × Linked (Follows clock n)
        (basics_over r events boundaries starts (runs starts m (length boundaries - 1)))
    unfolding runs numbers_from
    runs_in_order = subst (λ bs. BeginsAtFront bs × Linked (Follows clock n) bs)
        (sym (mapped (filter (begins_run starts m) (numbers_from 0 (length boundaries - 1 + 1 - m)))))
        (at (length boundaries - 1 + 1 - m) refl)
      where
        at : (k : ℕ) → length boundaries - 1 + 1 - m ≡ k →
            BeginsAtFront (map basic_at (filter (begins_run starts m) (numbers_from 0 k)))
            × Linked (Follows clock n) (map basic_at (filter (begins_run starts m) (numbers_from 0 k)))
        at zero e = (tt, tt)
        at (suc k) e =
            let rest = filter (begins_run starts m) (numbers_from (0 + 1) k) in
            let next : LinkedFrom (IsNext (begins_run starts m) (length boundaries - 1 + 1 - m)) 0 rest =
            next_from (begins_run starts m) (length boundaries - 1 + 1 - m) 0 (0 + 1) k (omega arith)
            (omega (arith, e)) begins_first (λ i over under. absurd (omega (arith, over, under))) in
            subst (λ b. BeginsAtFront (map basic_at (cond b (0 ∷ rest) rest))
            × Linked (Follows clock n) (map basic_at (cond b (0 ∷ rest) rest))) (sym begins_first) (
              front_is 0 (zero_in boundaries places),
              linked_mapped (IsNext (begins_run starts m) (length boundaries - 1 + 1 - m)) (Follows clock n)
                  basic_at
                  follows 0 rest next,
            )

-- the basic intervals of a recording come in order
pub basics_in_order : (r : Recorded) (events : List Event) (boundaries : List ℕ) →
    AreBoundaries boundaries (sample_count r) → 1 ≤ cycles_of r.lf →
    BeginsAtFront (basics_of r events boundaries)
    × Linked (Follows (clock_of r) (sample_count r)) (basics_of r events boundaries)
unfolding basic_runs
basics_in_order r events boundaries are some =
    runs_in_order (clock_of r) (sample_count r) (cycles_of r.lf) boundaries are some r events
