-- More basic intervals, that end after a place: the 2-hour intervals that end by it stay the same.
use Rattle.std.proofs.Common.{◌≡◌, ℕ, zero, suc, ◌+◌, ◌-◌, ◌<◌, ◌≤◌, Bool, true, false, cond, ◌&&◌, nat_le, List, [], ◌∷◌, ◌++◌, length, find, filter, filter_map, zip, ℤ, pos, ◌+ℤ◌, ◌≤ℤ◌, Option, Some, None, option_and_then, unwrap_or, IfSome, slice_get, slice_range, refl, sym, ◌∙◌, ap, subst, inl, inr, arith}
use Rattle.std.specs.Bool.{⊤}
use Rattle.std.specs.List.{AllByRecursion, cons_option}
use Rattle.std.specs.Option.{option_map_or}
use Rattle.std.specs.Ordering.{int_eq}
use Rattle.std.proofs.lemmas.Bool.{cases_lt}
use Rattle.std.proofs.lemmas.Bool.Decides.{nat_tests, Decides-int_eq}
use Rattle.std.proofs.lemmas.Int.{ints}
use Rattle.std.proofs.lemmas.Option.{cond_some}
use Rattle.pq_time.specs.declared.clock.Clock.{Clock}
use Rattle.pq_time.specs.Tick.{ticks, tick_place, moment_of}
use Rattle.pq_time.proofs.PlaceLaws.{place_rises}
use Rattle.aggregate.specs.declared.group.Group.{Group}
use Rattle.aggregate.specs.Aggregation.{Basic, group_of, parts_of, is_front_from, segment_end, reaches, ten_group, ten_groups, tick_pairs, has_tick, two_hour_group, two_hour_groups}
use Rattle.settled_laws.proofs.ListLaws.{all_each}
use Rattle.settled_laws.proofs.RiseLaws.{second_later}
use Rattle.settled_laws.proofs.ShortLaws.{IsAfter, ends_by, basic_end, group_end}
use Rattle.settled_laws.proofs.TenLaws.{settled, EndsSegment, ten_over, ten_found, ten_settled, filter_map_settled, first_at, none_at}
use Rattle.settled_laws.proofs.TwoLaws.{two_over, same_settled, two_carried}
use Rattle.pq_words.specs.First.{first_between}
use Rattle.pq_words.specs.Steps.{steps_from}

-- ---- the pairs of ticks have different first ticks

abbrev AreDistinct : List (ℤ × ℤ) → Type 0
AreDistinct [] = ⊤
AreDistinct (p ∷ ps) = AllByRecursion (λ q. int_eq p.0 q.0 ≡ false) ps × AreDistinct ps

int_no : (a b : ℤ) (s : ℕ) → 1 ≤ s → (a +ℤ pos s) ≤ℤ b → int_eq a b ≡ false
int_no a b s some h = at (int_eq a b) refl
  where
    at : (c : Bool) → int_eq a b ≡ c → c ≡ false
    at true is = let same : a ≡ b = (Decides-int_eq a b).0 is in absurd (omega (arith, ints, same, h, some))
    at false is = refl

above : (a low : ℤ) (s n : ℕ) (ys : List ℤ) → a ≤ℤ low
    → AllByRecursion (λ p. a ≤ℤ p.0) (zip (steps_from low s n) ys)
unfolding steps_from
above a low s zero ys h = tt
above a low s (suc n) [] h = tt
above a low s (suc n) (y ∷ ys) h = (h, above a (low +ℤ pos s) s n ys (omega (arith, ints, h)))

weaker : (P Q : ℤ × ℤ → Type 0) → ((p : ℤ × ℤ) → P p → Q p) → (ps : List (ℤ × ℤ)) → AllByRecursion P ps
    → AllByRecursion Q ps
weaker P Q f [] h = tt
weaker P Q f (p ∷ ps) h = (f p h.0, weaker P Q f ps h.1)

steps_distinct : (low : ℤ) (s n : ℕ) (ys : List ℤ) → 1 ≤ s → AreDistinct (zip (steps_from low s n) ys)
unfolding steps_from
steps_distinct low s zero ys some = tt
steps_distinct low s (suc n) [] some = tt
steps_distinct low s (suc n) (y ∷ ys) some = (
  weaker (λ p. (low +ℤ pos s) ≤ℤ p.0) (λ p. int_eq low p.0 ≡ false) (λ p h. int_no low p.0 s some h)
      (zip (steps_from (low +ℤ pos s) s n) ys)
      (above (low +ℤ pos s) (low +ℤ pos s) s n ys (omega (arith, ints))),
  steps_distinct (low +ℤ pos s) s n ys some,
)

pairs_distinct : (clock : Clock) (n : ℕ) → AreDistinct (tick_pairs clock n 600)
unfolding ticks
pairs_distinct clock n = steps_distinct _ 600 _ _ (omega arith)

-- ---- the 10-minute interval of a tick

abbrev first_is : ℤ → ℤ × ℤ → Bool
first_is t p = int_eq t p.0

int_same : (t a b : ℤ) → int_eq t a ≡ true → int_eq a b ≡ false → int_eq t b ≡ false
int_same t a b is other = let same : t ≡ a = (Decides-int_eq t a).0 is in ap (λ x. int_eq x b) same ∙ other

find_none : (t : ℤ) (ps : List (ℤ × ℤ)) → AllByRecursion (λ q. int_eq t q.0 ≡ false) ps
    → find (first_is t) ps ≡ None
find_none t [] h = refl
find_none t (p ∷ ps) h = ap (λ b. cond b (Some p) (find (first_is t) ps)) h.0 ∙ find_none t ps h.1

module _ (f : ℤ × ℤ → Option Group) (ticked : (p : ℤ × ℤ) → IfSome (f p) (λ g. g.tick ≡ Some p.0)) where
  find_pair : (t : ℤ) (ps : List (ℤ × ℤ)) → AreDistinct ps
      → find (has_tick t) (filter_map f ps) ≡ option_and_then f (find (first_is t) ps)
  find_pair t [] d = refl
  find_pair t (p ∷ ps) d = at (f p) refl (ticked p) (int_eq t p.0) refl (find_pair t ps d.1)
    where
      at : (o : Option Group) → f p ≡ o → IfSome o (λ g. g.tick ≡ Some p.0) → (b : Bool) → int_eq t p.0 ≡ b
          → find (has_tick t) (filter_map f ps) ≡ option_and_then f (find (first_is t) ps)
          → find (has_tick t) (cons_option o (filter_map f ps))
          ≡ option_and_then f (cond b (Some p) (find (first_is t) ps))
      at None is tick true here rest =
          rest ∙ ap (option_and_then f) (find_none t ps
          (weaker (λ q. int_eq p.0 q.0 ≡ false) (λ q. int_eq t q.0 ≡ false)
          (λ q other. int_same t p.0 q.0 here other) ps d.0)) ∙ sym is
      at None is tick false here rest = rest
      at (Some g) is tick b here rest =
          let has : has_tick t g ≡ b = ap (λ o. option_map_or (int_eq t) o false) tick ∙ here in
          ap (λ c. cond c (Some g) (find (has_tick t) (filter_map f ps))) has ∙ in_case b
        where
          in_case : (b : Bool) → cond b (Some g) (find (has_tick t) (filter_map f ps))
              ≡ option_and_then f (cond b (Some p) (find (first_is t) ps))
          in_case true = sym is
          in_case false = rest

ten_ticked : (clock : Clock) (n channels : ℕ) (bs : List Basic) (p : ℤ × ℤ)
    → IfSome (ten_group clock n channels bs p.0 p.1) (λ g. g.tick ≡ Some p.0)
unfolding group_of
ten_ticked clock n channels bs p =
    subst (λ o. IfSome o (λ g. g.tick ≡ Some p.0)) (sym (ten_found clock n channels bs p.0 p.1))
    (at (first_between (is_front_from bs (tick_place clock n p.0)) 0 (length bs)))
  where
    in_case : (b : Bool) (g : Group) → g.tick ≡ Some p.0
        → IfSome (cond b (Some g) None) (λ g. g.tick ≡ Some p.0)
    in_case true g h = h
    in_case false g h = tt

    at : (o : Option ℕ) → IfSome (option_and_then
        (λ k. ten_over p.0 channels (tick_place clock n p.1) bs k (segment_end bs k)) o)
        (λ g. g.tick ≡ Some p.0)
    at None = tt
    at (Some k) =
        in_case (reaches (parts_of (slice_range bs k (segment_end bs k))) (tick_place clock n p.1))
        (group_of (Some p.0) channels (parts_of (slice_range bs k (segment_end bs k)))) refl

-- ---- later ticks have intervals that end no earlier

-- ends of basic intervals do not fall
abbrev pub EndsRise : List Basic → Type 0
EndsRise bs = (i j : ℕ) → i ≤ j → j < length bs → basic_end bs i ≤ basic_end bs j

module _ (channels : ℕ) (bs : List Basic) (rise : EndsRise bs) where
  -- where a 10-minute interval comes from
  abbrev IsOver : ℕ → Group → Type 0
  IsOver place g = (k : ℕ) × (first_between (is_front_from bs place) 0 (length bs) ≡ Some k)
      × (g.end ≡ basic_end bs (segment_end bs k - 1))

  end_in : (k : ℕ) → k < length bs → (k < segment_end bs k) × (segment_end bs k ≤ length bs)
  end_in k inside = at (first_between (is_front_from bs 0) (k + 1) (length bs)) refl
    where
      at : (o : Option ℕ) → first_between (is_front_from bs 0) (k + 1) (length bs) ≡ o
          → (k < unwrap_or o (length bs)) × (unwrap_or o (length bs) ≤ length bs)
      at None e = (inside, omega arith)
      at (Some j) e = let h = first_at (is_front_from bs 0) (k + 1) (length bs) j e in let a = h.after in
          let b = h.below in (omega (arith, a), omega (arith, b))

  end_at_front : (k j : ℕ) → k < j → j < length bs → is_front_from bs 0 j ≡ true → segment_end bs k ≤ j
  end_at_front k j less inside front = at (first_between (is_front_from bs 0) (k + 1) (length bs)) refl
    where
      at : (o : Option ℕ) → first_between (is_front_from bs 0) (k + 1) (length bs) ≡ o
          → unwrap_or o (length bs) ≤ j
      at None e = absurd (none_at (is_front_from bs 0) (k + 1) (length bs) e j (omega (arith, less)) inside
          front)
      at (Some i) e =
          let first = first_at (is_front_from bs 0) (k + 1) (length bs) i e in
          elim (cases_lt j i) [
            | inl before ↦
                absurd (first.none_before j (omega (arith, less)) before front)
            | inr rest ↦ rest
          ]

  over_of : (clock : Clock) (n : ℕ) (tick next : ℤ) (g : Group)
      → ten_group clock n channels bs tick next ≡ Some g → IsOver (tick_place clock n tick) g
  over_of clock n tick next g e =
      at (first_between (is_front_from bs (tick_place clock n tick)) 0 (length bs)) refl
      (sym (ten_found clock n channels bs tick next) ∙ e)
    where
      at : (o : Option ℕ) → first_between (is_front_from bs (tick_place clock n tick)) 0 (length bs) ≡ o
          → option_and_then (λ k. ten_over tick channels (tick_place clock n next) bs k (segment_end bs k)) o
          ≡ Some g → IsOver (tick_place clock n tick) g
      at None is h = absurd (let bad : ⊥ = cc in bad)
      at (Some k) is h =
          let inside = (first_at (is_front_from bs (tick_place clock n tick)) 0 (length bs) k is).below in
          let ends = end_in k inside in
          let parts = cond_some (reaches (parts_of (slice_range bs k (segment_end bs k)))
          (tick_place clock n next)) (group_of (Some tick) channels
          (parts_of (slice_range bs k (segment_end bs k)))) g h in (
            k,
            is,
            ap (λ x. x.end) (sym parts.1)
                ∙ group_end (Some tick) channels bs k (segment_end bs k) ends.0 ends.1,
          )

  front_weaker : (p q : ℕ) (o : Option Basic) → p ≤ q
      → option_map_or (λ b. b.front && nat_le q b.part.start) o false ≡ true
      → option_map_or (λ b. b.front && nat_le p b.part.start) o false ≡ true
  front_weaker p q None h e = e
  front_weaker p q (Some b) h e = at b.front e
    where
      later : (p q s : ℕ) → p ≤ q → nat_le q s ≡ true → nat_le p s ≡ true
      later p q s h e = grind (arith, nat_tests, h, e)

      at : (c : Bool) → (c && nat_le q b.part.start) ≡ true → (c && nat_le p b.part.start) ≡ true
      at true e = later p q b.part.start h e
      at false e = e

  over_rise : (p q : ℕ) (g h : Group) → p ≤ q → IsOver p g → IsOver q h → g.end ≤ h.end
  over_rise p q g h le a b =
      let k = a.0 in
      let j = b.0 in
      let first = first_at (is_front_from bs p) 0 (length bs) k a.1 in
      let second = first_at (is_front_from bs q) 0 (length bs) j b.1 in
      let below = second.below in
      let ends = end_in k first.below in
      let ended = end_in j below in
      let order : k ≤ j = elim (cases_lt j k) [
        | inl less ↦ absurd (first.none_before j (omega arith) less
            (front_weaker p q (slice_get bs j) le second.passes))
        | inr rest ↦ rest
      ] in
      let bound : segment_end bs k - 1 ≤ segment_end bs j - 1 = elim (cases_lt k j) [
        | inl less ↦
            let at = end_at_front k j less below
            (front_weaker 0 q (slice_get bs j) (omega arith) second.passes) in omega (arith, at, ended.0)
        | inr back ↦ let same : k ≡ j = omega (arith, order, back) in
            let e : segment_end bs k ≡ segment_end bs j = ap (segment_end bs) same in omega (arith, e)
      ] in
      let r : basic_end bs (segment_end bs k - 1) ≤ basic_end bs (segment_end bs j - 1) =
      rise (segment_end bs k - 1) (segment_end bs j - 1) bound (omega (arith, ended.0, ended.1)) in
      omega (arith, a.2, b.2, r)

  -- the 10-minute interval that a 2-hour one finds at a tick
  ten_at_rises : (clock : Clock) (n : ℕ) (t : ℤ) (g h : Group)
      → find (has_tick t) (ten_groups clock n channels bs) ≡ Some g
      → find (has_tick (t +ℤ pos 600)) (ten_groups clock n channels bs) ≡ Some h → g.end ≤ h.end
  unfolding ten_groups
  ten_at_rises clock n t g h e f =
      let ps = tick_pairs clock n 600 in
      let ten : ℤ × ℤ → Option Group = λ p. ten_group clock n channels bs p.0 p.1 in
      let here = found t (find (first_is t) ps) g (found_first t ps)
      (sym (find_pair ten (ten_ticked clock n channels bs) t ps (pairs_distinct clock n)) ∙ e) in
      let next = found (t +ℤ pos 600) (find (first_is (t +ℤ pos 600)) ps) h (found_first (t +ℤ pos 600) ps)
      (sym (find_pair ten (ten_ticked clock n channels bs) (t +ℤ pos 600) ps (pairs_distinct clock n))
      ∙ f) in
      over_rise (tick_place clock n t) (tick_place clock n (t +ℤ pos 600)) g h
      (place_rises clock (moment_of t) (moment_of (t +ℤ pos 600)) n (second_later t 600)) here next
    where
      found_first : (t : ℤ) (ps : List (ℤ × ℤ)) → IfSome (find (first_is t) ps) (λ p. t ≡ p.0)
      found_first t [] = tt
      found_first t (p ∷ ps) = at (int_eq t p.0) refl (found_first t ps)
        where
          at : (b : Bool) → int_eq t p.0 ≡ b → IfSome (find (first_is t) ps) (λ p. t ≡ p.0)
              → IfSome (cond b (Some p) (find (first_is t) ps)) (λ p. t ≡ p.0)
          at true is rest = (Decides-int_eq t p.0).0 is
          at false is rest = rest

      found : (t : ℤ) (o : Option (ℤ × ℤ)) (g : Group) → IfSome o (λ p. t ≡ p.0)
          → option_and_then (λ p. ten_group clock n channels bs p.0 p.1) o ≡ Some g
          → IsOver (tick_place clock n t) g
      found t None g h e = absurd (let bad : ⊥ = cc in bad)
      found t (Some p) g h e = subst (λ s. IsOver (tick_place clock n s) g) (sym h)
          (over_of clock n p.0 p.1 g e)

-- ---- the 2-hour intervals that end by w

pub two_hours_settled : (clock : Clock) (n channels w : ℕ) (bs rest : List Basic)
    → AllByRecursion (IsAfter w) rest
    → AllByRecursion (λ p. EndsSegment (bs ++ rest) (tick_place clock n p.1)) (tick_pairs clock n 600)
    → EndsRise bs → EndsRise (bs ++ rest)
    → filter (ends_by w) (two_hour_groups clock n channels (ten_groups clock n channels (bs ++ rest)))
    ≡ filter (ends_by w) (two_hour_groups clock n channels (ten_groups clock n channels bs))
unfolding two_hour_groups two_hour_group ten_groups
two_hours_settled clock n channels w bs rest after ends rise_short rise_long =
    let long : ℤ → Option Group = λ t. find (has_tick t) (ten_groups clock n channels (bs ++ rest)) in
    let short : ℤ → Option Group = λ t. find (has_tick t) (ten_groups clock n channels bs) in
    let same : (t : ℤ) → settled w (long t) ≡ settled w (short t) = λ t. at_tick t in
    filter_map_settled w (two_over channels long) (two_over channels short) (ticks clock n 7200)
    (all_each (λ t. settled w (two_over channels long t) ≡ settled w (two_over channels short t))
    (λ t. same_settled w (two_over channels long t) (two_over channels short t)
    (λ g e by. two_carried long w (λ u x y. ten_at_rises channels (bs ++ rest) rise_long clock n u x y) short
    same channels t g e by)
    (λ g e by. two_carried short w (λ u x y. ten_at_rises channels bs rise_short clock n u x y) long
    (λ u. sym (same u)) channels t g e by))
    (ticks clock n 7200))
  where
    pick : (o : Option (ℤ × ℤ)) → IfSome o (λ p. EndsSegment (bs ++ rest) (tick_place clock n p.1))
        → settled w (option_and_then (λ p. ten_group clock n channels (bs ++ rest) p.0 p.1) o)
        ≡ settled w (option_and_then (λ p. ten_group clock n channels bs p.0 p.1) o)
    pick None h = refl
    pick (Some p) h = ten_settled channels w bs rest after clock n p.0 p.1 h

    find_all : (P : ℤ × ℤ → Type 0) (q : ℤ × ℤ → Bool) (ps : List (ℤ × ℤ)) → AllByRecursion P ps
        → IfSome (find q ps) P
    find_all P q [] h = tt
    find_all P q (p ∷ ps) h = at (q p) (find_all P q ps h.1)
      where
        at : (b : Bool) → IfSome (find q ps) P → IfSome (cond b (Some p) (find q ps)) P
        at true rest = h.0
        at false rest = rest

    at_tick : (t : ℤ) → settled w (find (has_tick t) (ten_groups clock n channels (bs ++ rest)))
        ≡ settled w (find (has_tick t) (ten_groups clock n channels bs))
    at_tick t =
        let ps = tick_pairs clock n 600 in
        let long : ℤ × ℤ → Option Group = λ p. ten_group clock n channels (bs ++ rest) p.0 p.1 in
        let short : ℤ × ℤ → Option Group = λ p. ten_group clock n channels bs p.0 p.1 in
        ap (settled w) (find_pair long (ten_ticked clock n channels (bs ++ rest)) t ps
        (pairs_distinct clock n))
        ∙ pick (find (first_is t) ps) (find_all (λ p. EndsSegment (bs ++ rest) (tick_place clock n p.1))
        (first_is t) ps ends)
        ∙ sym (ap (settled w) (find_pair short (ten_ticked clock n channels bs) t ps
        (pairs_distinct clock n)))
