-- The 10-minute intervals that a 2-hour interval contains.
use Rattle.std.proofs.Common.{◌≡◌, ℕ, zero, suc, ◌<◌, ◌≤◌, ◌==◌, true, List, [], ◌∷◌, length, map, find, filter_map, ℤ, pos, ◌+ℤ◌, ◌≤ℤ◌, Option, Some, None, slice_get, refl, ap, subst, arith}
use Rattle.std.specs.Bool.{⊤}
use Rattle.std.specs.List.{AllByRecursion, cons_option}
use Rattle.std.proofs.lemmas.Bool.Decides.{nat_tests}
use Rattle.std.proofs.lemmas.Int.{ints}
use Rattle.std.proofs.lemmas.Option.{cond_some, same_Some}
use Rattle.aggregate.specs.declared.group.Group.{Group}
use Rattle.aggregate.specs.Aggregation.{Basic, as_part, group_of, has_tick, ten_groups, two_hour_group, two_hour_groups}
use Rattle.pq_time.specs.declared.clock.Clock.{Clock}
use Rattle.pq_time.specs.Tick.{tick_place, ticks}
use Rattle.pq_words.specs.Steps.{steps_from}
use Rattle.result_laws.proofs.BasicRuns.{HasFront, Precedes}
use Rattle.result_laws.proofs.GroupLaws.{IsFound, found_ten, no_gap}
use Rattle.result_laws.proofs.PairLaws.{IsIn, Pairwise, pairwise_filter_map}
use Rattle.result_laws.proofs.TickPairs.{each_tick_apart, tick_rises}

filter_map_most : (f : ℤ → Option Group) (xs : List ℤ) → length (filter_map f xs) ≤ length xs
filter_map_most f [] = omega arith
filter_map_most f (x ∷ xs) = at (f x) (filter_map_most f xs)
  where
    at : (o : Option Group) → length (filter_map f xs) ≤ length xs →
        length (cons_option o (filter_map f xs)) ≤ suc (length xs)
    at None h = omega (arith, h)
    at (Some g) h = omega (arith, h)

length_steps : (low : ℤ) (step n : ℕ) → length (steps_from low step n) ≡ n
unfolding steps_from
length_steps low step zero = refl
length_steps low step (suc n) = ap suc (length_steps (low +ℤ pos step) step n)

twelve_of : (n : ℕ) → (n == 12) ≡ true → n ≡ 12
twelve_of n e = grind (arith, nat_tests, e)

module _ (clock : Clock) (n channels : ℕ) (bs : List Basic) (precede : Pairwise Precedes bs) where
  abbrev ten_at : ℤ → Option Group
  ten_at t = find (has_tick t) (ten_groups clock n channels bs)

  -- 10-minute intervals found at a tick and at those that follow it
  abbrev pub AreFound : ℤ → List Group → Type 0
  AreFound t [] = ⊤
  AreFound t (g ∷ gs) = IsFound clock n channels bs precede t g × AreFound (t +ℤ pos 600) gs

  -- where as many are found as there are ticks, each is found
  are_found : (t : ℤ) (many : ℕ) → length (filter_map ten_at (steps_from t 600 many)) ≡ many →
      AreFound t (filter_map ten_at (steps_from t 600 many))
  unfolding steps_from
  are_found t zero e = tt
  are_found t (suc many) e = at (ten_at t) refl e (λ h. are_found (t +ℤ pos 600) many h)
    where
      at : (o : Option Group) → ten_at t ≡ o →
          length (cons_option o (filter_map ten_at (steps_from (t +ℤ pos 600) 600 many))) ≡ suc many →
          (length (filter_map ten_at (steps_from (t +ℤ pos 600) 600 many)) ≡ many →
          AreFound (t +ℤ pos 600) (filter_map ten_at (steps_from (t +ℤ pos 600) 600 many))) →
          AreFound t (cons_option o (filter_map ten_at (steps_from (t +ℤ pos 600) 600 many)))
      at None is h rest =
          let most : length (filter_map ten_at (steps_from (t +ℤ pos 600) 600 many)) ≤ many =
          subst (λ m. length (filter_map ten_at (steps_from (t +ℤ pos 600) 600 many)) ≤ m)
          (length_steps (t +ℤ pos 600) 600 many)
          (filter_map_most ten_at (steps_from (t +ℤ pos 600) 600 many)) in
          absurd (omega (arith, h, most))
      at (Some g) is h rest =
          (found_ten clock n channels bs precede t g is, rest (omega (arith, h)))

  -- a 2-hour interval is the group of twelve such
  pub record IsTwoHours (t : ℤ) (g : Group) (tens : List Group) : Type 0 where
    pub twelve : length tens ≡ 12
    pub found : AreFound t tens
    pub is : group_of (Some t) channels (map as_part tens) ≡ g

  pub two_hours_of_tens : (t : ℤ) (g : Group) →
      two_hour_group channels (ten_groups clock n channels bs) t ≡ Some g →
      (tens : List Group) × IsTwoHours t g tens
  unfolding two_hour_group
  two_hours_of_tens t g e =
      let tens = filter_map ten_at (steps_from t 600 12) in
      let parts = cond_some (length tens == 12) (group_of (Some t) channels (map as_part tens)) g e in
      let twelve = twelve_of (length tens) parts.0 in
      (tens, record { twelve = twelve; found = are_found t 12 twelve; is = parts.1 })

  -- each is one of the 10-minute intervals, of its tick
  pub all_there : (t : ℤ) (gs : List Group) → AreFound t gs →
      AllByRecursion (λ g. IsIn g (ten_groups clock n channels bs)) gs
  all_there t [] h = tt
  all_there t (g ∷ gs) h = (h.0.is_in, all_there (t +ℤ pos 600) gs h.1)

  -- none is followed by a gap
  pub no_gaps : ((u : ℤ) → IsIn u (ticks clock n 600) → HasFront bs (tick_place clock n u)) → (t : ℤ)
      (gs : List Group) → AreFound t gs → (k : ℕ) (g h : Group) → slice_get gs k ≡ Some g →
      slice_get gs (suc k) ≡ Some h → h.start ≤ g.end
  no_gaps fronts t [] found k g h at next = absurd (let bad : ⊥ = cc in bad)
  no_gaps fronts t (x ∷ []) found zero g h at next = absurd (let bad : ⊥ = cc in bad)
  no_gaps fronts t (x ∷ y ∷ gs) found zero g h at next =
      let bound = no_gap clock n channels bs precede t (t +ℤ pos 600) (t +ℤ pos 600 +ℤ pos 600) x y
      found.0.ten
      found.1.0.ten (fronts (t +ℤ pos 600) found.0.next_tick) in
      let end : x.end ≡ g.end = ap (λ (z : Group). z.end) (same_Some x g at) in
      let start : y.start ≡ h.start = ap (λ (z : Group). z.start) (same_Some y h next) in
      omega (arith, bound, end, start)
  no_gaps fronts t (x ∷ gs) found (suc k) g h at next = no_gaps fronts (t +ℤ pos 600) gs found.1 k g h at next

  -- ---- the 2-hour intervals start one after another

  starts_between : (t : ℤ) (g : Group) → two_hour_group channels (ten_groups clock n channels bs) t ≡ Some g →
      (tick_place clock n t ≤ g.start) × (g.start < tick_place clock n (t +ℤ pos 600))
  unfolding group_of
  starts_between t g e = let made = two_hours_of_tens t g e in at made.0 made.1
    where
      at : (tens : List Group) → IsTwoHours t g tens →
          (tick_place clock n t ≤ g.start) × (g.start < tick_place clock n (t +ℤ pos 600))
      at [] made = let none = made.twelve in absurd (omega (arith, none))
      at (x ∷ xs) made =
          let start : x.start ≡ g.start = ap (λ (z : Group). z.start) made.is in
          let from = made.found.0.ten.begins in
          let until = made.found.0.ten.early in
          (omega (arith, start, from), omega (arith, start, until))

  pub two_hours_rise : Pairwise (λ (g h : Group). g.start < h.start)
      (two_hour_groups clock n channels (ten_groups clock n channels bs))
  unfolding two_hour_groups
  two_hours_rise =
      pairwise_filter_map (λ (g h : Group). g.start < h.start)
      (two_hour_group channels (ten_groups clock n channels bs)) (ticks clock n 7200)
      (pairs (ticks clock n 7200) (each_tick_apart clock n 7200))
    where
      one : (t u : ℤ) → (t +ℤ pos 7200) ≤ℤ u → (x y : Group) →
          two_hour_group channels (ten_groups clock n channels bs) t ≡ Some x →
          two_hour_group channels (ten_groups clock n channels bs) u ≡ Some y → x.start < y.start
      one t u order x y is_x is_y =
          let a = starts_between t x is_x in
          let b = starts_between u y is_y in
          let places = tick_rises clock n (t +ℤ pos 600) u (omega (arith, ints, order)) in
          omega (arith, a, b, places)

      ones : (t : ℤ) (us : List ℤ) → AllByRecursion (λ u. (t +ℤ pos 7200) ≤ℤ u) us →
          AllByRecursion (λ u. (x y : Group) →
          two_hour_group channels (ten_groups clock n channels bs) t ≡ Some x →
          two_hour_group channels (ten_groups clock n channels bs) u ≡ Some y → x.start < y.start) us
      ones t [] h = tt
      ones t (u ∷ us) h = (one t u h.0, ones t us h.1)

      pairs : (ts : List ℤ) → Pairwise (λ t u. (t +ℤ pos 7200) ≤ℤ u) ts →
          Pairwise (λ t u. (x y : Group) →
          two_hour_group channels (ten_groups clock n channels bs) t ≡ Some x →
          two_hour_group channels (ten_groups clock n channels bs) u ≡ Some y → x.start < y.start) ts
      pairs [] h = tt
      pairs (t ∷ ts) h = (ones t ts h.0, pairs ts h.1)
