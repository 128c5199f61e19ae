-- Where the intervals of more than one basic interval start and end.
use Rattle.std.proofs.Common.{◌≡◌, ℕ, zero, suc, ◌+◌, ◌-◌, ◌<◌, ◌≤◌, ◌&&◌, ◌||◌, nat_lt, nat_le, Bool, true, false, cond, List, [], ◌∷◌, length, map, find, drop, take, ℤ, pos, ◌+ℤ◌, ◌≤ℤ◌, Option, Some, None, option_map, option_and_then, unwrap_or, slice_get, slice_range, refl, sym, ◌∙◌, ap, subst, inl, inr, arith}
use Rattle.std.specs.List.{AllByRecursion, list_any}
use Rattle.std.specs.Option.{option_map_or}
use Rattle.std.specs.Ordering.{int_eq}
use Rattle.std.proofs.lemmas.Bool.{cases_lt}
use Rattle.std.proofs.lemmas.Bool.Decides.{nat_tests, Decides-int_eq}
use Rattle.std.proofs.lemmas.List.{length-map, length-take, length-drop}
use Rattle.std.proofs.lemmas.Option.{cond_some, same_Some, slice_get-map, slice_get_cases, slice_get_within}
use Rattle.aggregate.specs.declared.group.Group.{Group}
use Rattle.aggregate.specs.Aggregation.{Basic, Part, group_of, has_tick, is_front_from, parts_of, reaches, segment_at, segment_end, segment_of, segment_starts, short_groups, ten_group, ten_groups, tick_pairs}
use Rattle.pq_time.specs.declared.clock.Clock.{Clock}
use Rattle.pq_time.specs.Tick.{tick_place, ticks}
use Rattle.pq_words.specs.First.{FirstAt, first_between}
use Rattle.ten_twelve.specs.declared.span.Span.{Span}
use Rattle.ten_twelve.specs.Run.{run_from, runs}
use Rattle.result_laws.proofs.BasicRuns.{HasFront, Precedes}
use Rattle.result_laws.proofs.EventStarts.{first_at}
use Rattle.result_laws.proofs.NumberLaws.{indices_bound, indices_rise, run_indices}
use Rattle.result_laws.proofs.PairLaws.{IsIn, Pairwise, all_in, at_in, in_at, of_filter_map, of_find, pairwise_all, pairwise_at, pairwise_filter_map, pairwise_map}
use Rattle.result_laws.proofs.TickPairs.{IsTickPair, tick_rises, ticks_apart, ticks_next}

-- ---- a part of a list, by index

get_drop : {X : Type 0} (n i : ℕ) (xs : List X) → slice_get (drop n xs) i ≡ slice_get xs (n + i)
get_drop zero i xs = let e : i ≡ 0 + i = omega arith in ap (slice_get xs) e
get_drop (suc n) i [] = refl
get_drop (suc n) i (x ∷ xs) =
    let e : suc (n + i) ≡ suc n + i = omega arith in
    get_drop n i xs ∙ ap (slice_get (x ∷ xs)) e

get_take : {X : Type 0} (n i : ℕ) (xs : List X) → i < n → slice_get (take n xs) i ≡ slice_get xs i
get_take zero i xs h = absurd (omega (arith, h))
get_take (suc n) i [] h = refl
get_take (suc n) zero (x ∷ xs) h = refl
get_take (suc n) (suc i) (x ∷ xs) h = get_take n i xs (omega (arith, h))

get_range : {X : Type 0} (xs : List X) (a b i : ℕ) → i < b - a →
    slice_get (slice_range xs a b) i ≡ slice_get xs (a + i)
get_range xs a b i h = get_take (b - a) i (drop a xs) h ∙ get_drop a i xs

length_range : {X : Type 0} (xs : List X) (a b : ℕ) → b ≤ length xs → length (slice_range xs a b) ≡ b - a
length_range xs a b h = length-take (b - a) (drop a xs) ∙ omega (arith, length-drop a xs, h)

-- ---- where a group starts and ends

-- the start of the basic interval at an index, and its end
abbrev pub basic_start : List Basic → ℕ → ℕ
basic_start bs i = option_map_or (λ b. b.part.start) (slice_get bs i) 0

abbrev pub basic_end : List Basic → ℕ → ℕ
basic_end bs i = option_map_or (λ b. b.part.end) (slice_get bs i) 0

mapped_start : (o : Option Basic) →
    option_map_or (λ p. p.start) (option_map (λ b. b.part) o) 0 ≡ option_map_or (λ b. b.part.start) o 0
mapped_start None = refl
mapped_start (Some b) = refl

mapped_end : (o : Option Basic) →
    option_map_or (λ p. p.end) (option_map (λ b. b.part) o) 0 ≡ option_map_or (λ b. b.part.end) o 0
mapped_end None = refl
mapped_end (Some b) = refl

-- a group of consecutive basic intervals starts where the first of them does, and ends where the last does
pub group_start : (tick : Option ℤ) (channels : ℕ) (bs : List Basic) (a b : ℕ) → a < b →
    (group_of tick channels (parts_of (slice_range bs a b))).start ≡ basic_start bs a
unfolding group_of
group_start tick channels bs a b some =
    let range = slice_range bs a b in
    let first : a + 0 ≡ a = omega arith in
    ap (λ o. option_map_or (λ p. p.start) o 0) (slice_get-map (λ b. b.part) range 0)
    ∙ mapped_start (slice_get range 0)
    ∙ ap (λ o. option_map_or (λ b. b.part.start) o 0)
    (get_range bs a b 0 (omega (arith, some)) ∙ ap (slice_get bs) first)

pub group_end : (tick : Option ℤ) (channels : ℕ) (bs : List Basic) (a b : ℕ) → a < b → b ≤ length bs →
    (group_of tick channels (parts_of (slice_range bs a b))).end ≡ basic_end bs (b - 1)
unfolding group_of
group_end tick channels bs a b some inside =
    let range = slice_range bs a b in
    let many : length (parts_of range) ≡ b - a =
    length-map range (λ b. b.part) ∙ length_range bs a b inside in
    let last : a + (b - a - 1) ≡ b - 1 = omega (arith, some) in
    ap (λ n. option_map_or (λ p. p.end) (slice_get (parts_of range) (n - 1)) 0) many
    ∙ ap (λ o. option_map_or (λ p. p.end) o 0) (slice_get-map (λ b. b.part) range (b - a - 1))
    ∙ mapped_end (slice_get range (b - a - 1))
    ∙ ap (λ o. option_map_or (λ b. b.part.end) o 0)
    (get_range bs a b (b - a - 1) (omega (arith, some)) ∙ ap (slice_get bs) last)

-- ---- basic intervals that precede one another, by index

basic_at : (bs : List Basic) (i : ℕ) → i < length bs → (b : Basic) × (slice_get bs i ≡ Some b)
basic_at bs i inside = elim ((slice_get_cases bs i).1) [
  | inl found ↦ (found.0, found.2)
  | inr past ↦ let beyond = past.0 in absurd (omega (arith, inside, beyond))
]

start_is : (bs : List Basic) (i : ℕ) (b : Basic) → slice_get bs i ≡ Some b → basic_start bs i ≡ b.part.start
start_is bs i b there = ap (λ o. option_map_or (λ b. b.part.start) o 0) there

end_is : (bs : List Basic) (i : ℕ) (b : Basic) → slice_get bs i ≡ Some b → basic_end bs i ≡ b.part.end
end_is bs i b there = ap (λ o. option_map_or (λ b. b.part.end) o 0) there

module _ (bs : List Basic) (precede : Pairwise Precedes bs) where
  both_at : (i j : ℕ) → i < j → j < length bs →
      (basic_start bs i < basic_start bs j) × (basic_end bs i ≤ basic_end bs j)
  both_at i j less inside =
      let a = basic_at bs i (omega (arith, less, inside)) in
      let b = basic_at bs j inside in
      let is = pairwise_at Precedes bs i j a.0 b.0 precede less a.1 b.1 in
      let starts = is.starts in
      let ends = is.ends in
      let start_a = start_is bs i a.0 a.1 in
      let start_b = start_is bs j b.0 b.1 in
      let end_a = end_is bs i a.0 a.1 in
      let end_b = end_is bs j b.0 b.1 in
      (omega (arith, starts, start_a, start_b), omega (arith, ends, end_a, end_b))

  pub starts_order : (i j : ℕ) → i ≤ j → j < length bs → basic_start bs i ≤ basic_start bs j
  starts_order i j from inside = elim (cases_lt i j) [
    | inl less ↦ let both = both_at i j less inside in omega (arith, both.0)
    | inr back ↦
        let e : i ≡ j = omega (arith, from, back) in
        let same : basic_start bs i ≡ basic_start bs j = ap (basic_start bs) e in
        omega (arith, same)
  ]

  pub ends_order : (i j : ℕ) → i ≤ j → j < length bs → basic_end bs i ≤ basic_end bs j
  ends_order i j from inside = elim (cases_lt i j) [
    | inl less ↦ let both = both_at i j less inside in both.1
    | inr back ↦
        let e : i ≡ j = omega (arith, from, back) in
        let same : basic_end bs i ≡ basic_end bs j = ap (basic_end bs) e in
        omega (arith, same)
  ]

  -- the 150/180-cycle intervals start one after another
  pub shorts_rise : (channels : ℕ) → Pairwise (λ (g h : Group). g.start < h.start) (short_groups channels bs)
  unfolding short_groups runs
  shorts_rise channels =
      let starts = segment_starts bs in
      let n = length bs in
      let xs = run_indices starts 15 n in
      let made : Span → Group = λ run. group_of None channels (parts_of (slice_range bs run.start run.end)) in
      pairwise_map (λ (g h : Group). g.start < h.start) made (map (run_from 15) xs)
      (pairwise_map (λ a b. (made a).start < (made b).start) (run_from 15) xs
      (pairwise_all (λ x. x < n + 1 - 15) (λ x y. x < y)
      (λ x y. (made (run_from 15 x)).start < (made (run_from 15 y)).start)
      (λ x y in_x in_y less.
      let one = group_start None channels bs x (x + 15) (omega arith) in
      let two = group_start None channels bs y (y + 15) (omega arith) in
      let both = both_at x y less (omega (arith, in_y)) in
      omega (arith, one, two, both.0))
      xs (indices_bound starts 15 n) (indices_rise starts 15 n)))

-- ---- tests

lt_of : (a b : ℕ) → nat_lt a b ≡ true → a < b
lt_of a b h = grind (arith, nat_tests, h)

le_of : (a b : ℕ) → nat_le a b ≡ true → a ≤ b
le_of a b h = grind (arith, nat_tests, h)

of_le : (a b : ℕ) → a ≤ b → nat_le a b ≡ true
of_le a b h = grind (arith, nat_tests, h)

both_parts : (a b : Bool) → (a && b) ≡ true → (a ≡ true) × (b ≡ true)
both_parts true b h = (refl, h)
both_parts false b h = absurd (let bad : ⊥ = cc in bad)

any_at : {X : Type 0} (t : X → Bool) (xs : List X) → list_any t xs ≡ true →
    (i : ℕ) × (x : X) × (slice_get xs i ≡ Some x) × (t x ≡ true)
any_at t [] h = absurd (let bad : ⊥ = cc in bad)
any_at {X} t (x ∷ xs) h = at (t x) refl h (λ g. any_at t xs g)
  where
    at : (b : Bool) → t x ≡ b → (b || list_any t xs) ≡ true →
        (list_any t xs ≡ true → (i : ℕ) × (y : X) × (slice_get xs i ≡ Some y) × (t y ≡ true)) →
        (i : ℕ) × (y : X) × (slice_get (x ∷ xs) i ≡ Some y) × (t y ≡ true)
    at true is h rest = (0, x, refl, is)
    at false is h rest = let r = rest h in (suc r.0, r.1, r.2, r.3)

is_some_map : (o : Option Basic) (p : Part) → option_map (λ b. b.part) o ≡ Some p →
    (b : Basic) × (o ≡ Some b) × (b.part ≡ p)
is_some_map None p e = absurd (let bad : ⊥ = cc in bad)
is_some_map (Some b) p e = (b, refl, same_Some b.part p e)

-- ---- the 10-minute interval of a tick

-- it is a segment that reaches the next tick: it starts at the first front at the tick's place or after it,
-- before the next tick's place, and one of its basic intervals ends at that place or after it
pub record IsTen (clock : Clock) (n : ℕ) (bs : List Basic) (tick next : ℤ) (g : Group) : Type 0 where
  pub first : ℕ
  pub is_first : FirstAt (is_front_from bs (tick_place clock n tick)) 0 (length bs) first
  pub start : g.start ≡ basic_start bs first
  pub begins : tick_place clock n tick ≤ g.start
  pub early : g.start < tick_place clock n next
  pub over : ℕ
  pub inside : over < length bs
  pub reaches_next : tick_place clock n next ≤ basic_end bs over
  pub ends : basic_end bs over ≤ g.end
  pub tick_is : g.tick ≡ Some tick

-- what a front from a place is
front_parts : (bs : List Basic) (place i : ℕ) → is_front_from bs place i ≡ true →
    (b : Basic) × (slice_get bs i ≡ Some b) × (b.front ≡ true) × (place ≤ b.part.start)
front_parts bs place i h = at (slice_get bs i) refl h
  where
    at : (o : Option Basic) → slice_get bs i ≡ o →
        option_map_or (λ b. b.front && nat_le place b.part.start) o false ≡ true →
        (b : Basic) × (slice_get bs i ≡ Some b) × (b.front ≡ true) × (place ≤ b.part.start)
    at None is e = absurd (let bad : ⊥ = cc in bad)
    at (Some b) is e =
        let both = both_parts b.front (nat_le place b.part.start) e in
        (b, is, both.0, le_of place b.part.start both.1)

of_front : (bs : List Basic) (place i : ℕ) (b : Basic) → slice_get bs i ≡ Some b → b.front ≡ true →
    place ≤ b.part.start → is_front_from bs place i ≡ true
of_front bs place i b there front from =
    ap (λ o. option_map_or (λ b. b.front && nat_le place b.part.start) o false) there
    ∙ ap (λ c. c && nat_le place b.part.start) front ∙ of_le place b.part.start from

module _ (clock : Clock) (n channels : ℕ) (bs : List Basic) (precede : Pairwise Precedes bs) where
  -- the 10-minute interval over the segment from an index on, where it reaches a place
  abbrev over_segment : ℤ → ℕ → ℕ → Option Group
  over_segment tick place k =
      cond (reaches (parts_of (segment_at bs k)) place) (Some (group_of (Some tick) channels
      (parts_of (segment_at bs k)))) None

  end_in : (k : ℕ) → k < length bs → (k < segment_end bs k) × (segment_end bs k ≤ length bs)
  end_in k inside = at (first_between (is_front_from bs 0) (k + 1) (length bs)) refl
    where
      at : (o : Option ℕ) → first_between (is_front_from bs 0) (k + 1) (length bs) ≡ o →
          (k < unwrap_or o (length bs)) × (unwrap_or o (length bs) ≤ length bs)
      at None e = (inside, omega arith)
      at (Some j) e =
          let h = first_at (is_front_from bs 0) (k + 1) (length bs) j e in
          let a = h.after in
          let b = h.below in
          (omega (arith, a), omega (arith, b))

  ten_from : (tick next : ℤ) (g : Group) (k : ℕ) →
      FirstAt (is_front_from bs (tick_place clock n tick)) 0 (length bs) k →
      over_segment tick (tick_place clock n next) k ≡ Some g → IsTen clock n bs tick next g
  unfolding group_of
  ten_from tick next g k first e =
      let place = tick_place clock n next in
      let j = segment_end bs k in
      let range = slice_range bs k j in
      let below = first.below in
      let ends = end_in k below in
      let some = ends.0 in
      let until = ends.1 in
      let is = cond_some (reaches (parts_of range) place) (group_of (Some tick) channels (parts_of range)) g
      e in
      let found = any_at (λ p. nat_lt p.start place && nat_le place p.end) (parts_of range) is.0 in
      let i = found.0 in
      let basic = is_some_map (slice_get range i) found.1
      (sym (slice_get-map (λ b. b.part) range i) ∙ found.2) in
      let x = basic.0 in
      let within : i < j - k =
      let h = slice_get_within range i x basic.1 in omega (arith, h, length_range bs k j until) in
      let there : slice_get bs (k + i) ≡ Some x = sym (get_range bs k j i within) ∙ basic.1 in
      let tests = both_parts (nat_lt found.1.start place) (nat_le place found.1.end) found.3 in
      let begun : x.part.start < place =
      subst (λ p. p.start < place) (sym basic.2) (lt_of found.1.start place tests.0) in
      let ended : place ≤ x.part.end =
      subst (λ p. place ≤ p.end) (sym basic.2) (le_of place found.1.end tests.1) in
      let start : g.start ≡ basic_start bs k =
      ap (λ (h : Group). h.start) (sym is.1) ∙ group_start (Some tick) channels bs k j some in
      let end : g.end ≡ basic_end bs (j - 1) =
      ap (λ (h : Group). h.end) (sym is.1) ∙ group_end (Some tick) channels bs k j some until in
      let front = front_parts bs (tick_place clock n tick) k first.passes in
      let from = front.3 in
      let front_start = start_is bs k front.0 front.1 in
      let x_start = start_is bs (k + i) x there in
      let x_end = end_is bs (k + i) x there in
      let order = starts_order bs precede k (k + i) (omega arith) (omega (arith, within, until)) in
      let last = ends_order bs precede (k + i) (j - 1) (omega (arith, within)) (omega (arith, some, until)) in
      record {
        first = k;
        is_first = first;
        start = start;
        begins = omega (arith, start, front_start, from);
        early = omega (arith, start, order, x_start, begun);
        over = k + i;
        inside = omega (arith, within, until);
        reaches_next = omega (arith, x_end, ended);
        ends = omega (arith, last, end);
        tick_is = ap (λ (h : Group). h.tick) (sym is.1);
      }

  pub is_ten : (tick next : ℤ) (g : Group) → ten_group clock n channels bs tick next ≡ Some g →
      IsTen clock n bs tick next g
  unfolding ten_group segment_of
  is_ten tick next g e =
      at (first_between (is_front_from bs (tick_place clock n tick)) 0 (length bs)) refl e
    where
      at : (o : Option ℕ) → first_between (is_front_from bs (tick_place clock n tick)) 0 (length bs) ≡ o →
          option_and_then (λ segment. cond (reaches (parts_of segment) (tick_place clock n next))
          (Some (group_of (Some tick) channels (parts_of segment))) None) (option_map (segment_at bs) o)
          ≡ Some g → IsTen clock n bs tick next g
      at None is h = absurd (let bad : ⊥ = cc in bad)
      at (Some k) is h =
          ten_from tick next g k (first_at (is_front_from bs (tick_place clock n tick)) 0 (length bs) k is) h

  -- an interval is followed without a gap: the next starts no later than it ends
  pub no_gap : (tick next after : ℤ) (g h : Group) → IsTen clock n bs tick next g →
      IsTen clock n bs next after h → HasFront bs (tick_place clock n next) → h.start ≤ g.end
  no_gap tick next after g h ten later fronts =
      let place = tick_place clock n next in
      let a = basic_at bs ten.over ten.inside in
      let front = front_parts bs place later.first later.is_first.passes in
      let end_a = end_is bs ten.over a.0 a.1 in
      let reached = ten.reaches_next in
      let c = fronts a.0 front.0 (in_at a.0 bs ten.over a.1) (in_at front.0 bs later.first front.1)
      (omega (arith, reached, end_a)) front.3 in
      let at = at_in c.0 bs c.1 in
      let passes = of_front bs place at.0 c.0 at.2 c.2 c.3 in
      let order : later.first ≤ at.0 = elim (cases_lt at.0 later.first) [
        | inl less ↦ absurd (later.is_first.none_before at.0 (omega arith) less passes)
        | inr rest ↦ rest
      ] in
      let starts = starts_order bs precede later.first at.0 order at.1 in
      let start_c = start_is bs at.0 c.0 at.2 in
      let start_h = later.start in
      let soon = c.4 in
      let ends = ten.ends in
      omega (arith, starts, start_c, start_h, soon, ends, end_a)

  -- the 10-minute intervals start one after another
  pub tens_rise : Pairwise (λ (g h : Group). g.start < h.start) (ten_groups clock n channels bs)
  unfolding ten_groups
  tens_rise =
      pairwise_filter_map (λ (g h : Group). g.start < h.start)
      (λ p. ten_group clock n channels bs p.0 p.1) (tick_pairs clock n 600)
      (pairs (tick_pairs clock n 600) (ticks_apart clock n 600))
    where
      one : (p q : ℤ × ℤ) → p.1 ≤ℤ q.0 → (x y : Group) → ten_group clock n channels bs p.0 p.1 ≡ Some x →
          ten_group clock n channels bs q.0 q.1 ≡ Some y → x.start < y.start
      one p q order x y is_x is_y =
          let a = is_ten p.0 p.1 x is_x in
          let b = is_ten q.0 q.1 y is_y in
          let before = a.early in
          let from = b.begins in
          let places = tick_rises clock n p.1 q.0 order in
          omega (arith, before, from, places)

      ones : (p : ℤ × ℤ) (ps : List (ℤ × ℤ)) → AllByRecursion (λ (q : ℤ × ℤ). p.1 ≤ℤ q.0) ps →
          AllByRecursion (λ q. (x y : Group) → ten_group clock n channels bs p.0 p.1 ≡ Some x →
          ten_group clock n channels bs q.0 q.1 ≡ Some y → x.start < y.start) ps
      ones p [] h = tt
      ones p (q ∷ qs) h = (one p q h.0, ones p qs h.1)

      pairs : (ps : List (ℤ × ℤ)) → Pairwise (λ (p q : ℤ × ℤ). p.1 ≤ℤ q.0) ps →
          Pairwise (λ p q. (x y : Group) → ten_group clock n channels bs p.0 p.1 ≡ Some x →
          ten_group clock n channels bs q.0 q.1 ≡ Some y → x.start < y.start) ps
      pairs [] h = tt
      pairs (p ∷ ps) h = (ones p ps h.0, pairs ps h.1)

  -- ---- found by tick

  tick_of_has : (t : ℤ) (g : Group) → has_tick t g ≡ true → g.tick ≡ Some t
  tick_of_has t g h = at g.tick h
    where
      at : (o : Option ℤ) → option_map_or (int_eq t) o false ≡ true → o ≡ Some t
      at None e = absurd (let bad : ⊥ = cc in bad)
      at (Some s) e = let same : t ≡ s = (Decides-int_eq t s).0 e in ap Some (sym same)

  -- the 10-minute interval that is found at a tick
  pub record IsFound (t : ℤ) (g : Group) : Type 0 where
    pub is_in : IsIn g (ten_groups clock n channels bs)
    pub ten : IsTen clock n bs t (t +ℤ pos 600) g
    pub next_tick : IsIn (t +ℤ pos 600) (ticks clock n 600)

  pub found_ten : (t : ℤ) (g : Group) → find (has_tick t) (ten_groups clock n channels bs) ≡ Some g →
      IsFound t g
  unfolding ten_groups
  found_ten t g e =
      let is = of_find (has_tick t) g (ten_groups clock n channels bs) e in
      let pair = of_filter_map (λ p. ten_group clock n channels bs p.0 p.1) g (tick_pairs clock n 600) is.0 in
      let p = pair.0 in
      let next = all_in (IsTickPair 600 (ticks clock n 600)) p (tick_pairs clock n 600)
      (ticks_next clock n 600)
      pair.1 in
      let ten = is_ten p.0 p.1 g pair.2 in
      let same : p.0 ≡ t = same_Some p.0 t (sym ten.tick_is ∙ tick_of_has t g is.1) in
      let second : p.1 ≡ (t +ℤ pos 600) = next.0 ∙ ap (λ s. s +ℤ pos 600) same in
      record {
        is_in = is.0;
        ten = subst (λ s. IsTen clock n bs s (t +ℤ pos 600) g) same
            (subst (λ s. IsTen clock n bs p.0 s g) second ten);
        next_tick = subst (λ s. IsIn s (ticks clock n 600)) second next.1;
      }
