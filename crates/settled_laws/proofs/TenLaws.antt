-- More basic intervals, that end after a place: the 10-minute intervals that end by it stay the same.
use Rattle.std.proofs.Common.{◌≡◌, ◌⊎◌, ℕ, zero, suc, ◌+◌, ◌-◌, ◌<◌, ◌≤◌, Bool, true, false, cond, ◌&&◌, ◌||◌, nat_lt, nat_le, List, [], ◌∷◌, ◌++◌, length, filter, filter_map, ℤ, Option, Some, None, option_map, option_and_then, unwrap_or, slice_get, slice_range, refl, sym, ◌∙◌, ap, subst, inl, inr, arith}
use Rattle.std.specs.List.{AllByRecursion, list_any, cons_option}
use Rattle.std.specs.Option.{option_map_or}
use Rattle.std.proofs.lemmas.Bool.{cases_lt}
use Rattle.std.proofs.lemmas.Bool.Decides.{nat_tests}
use Rattle.std.proofs.lemmas.List.{length-append}
use Rattle.std.proofs.lemmas.Option.{slice_get-map, slice_get_within}
use Rattle.pq_time.specs.declared.clock.Clock.{Clock}
use Rattle.aggregate.specs.declared.group.Group.{Group}
use Rattle.aggregate.specs.Aggregation.{Part, Basic, group_of, parts_of, is_front_from, segment_at, segment_end, segment_of, reaches, ten_group, ten_groups, tick_pairs}
use Rattle.pq_time.specs.Tick.{tick_place}
use Rattle.settled_laws.proofs.ShortLaws.{IsAfter, ends_by, late_group, range_kept, get_range, length_range}
use Rattle.pq_words.specs.First.{FirstAt, IsFirst, Nowhere, first_between}
use Rattle.pq_words.proofs.FirstLaws.{first_between_is, first_between_same, first_between_kept}

-- the group, if it ends by place w
abbrev pub settled : ℕ → Option Group → Option Group
settled w None = None
settled w (Some g) = cond (ends_by w g) (Some g) None

-- a basic interval over a place is followed by one that begins a segment
abbrev pub EndsSegment : List Basic → ℕ → Type 0
EndsSegment bs place = (i : ℕ) (x y : Basic) → slice_get bs i ≡ Some x → slice_get bs (i + 1) ≡ Some y
    → x.part.start < place → place ≤ x.part.end → y.front ≡ true

get_left : {X : Type 0} (xs ys : List X) (k : ℕ) → k < length xs → slice_get (xs ++ ys) k ≡ slice_get xs k
get_left [] ys k inside = absurd (omega (arith, inside))
get_left (x ∷ xs) ys zero inside = refl
get_left (x ∷ xs) ys (suc k) inside = get_left xs ys k (omega (arith, inside))

found_or_not : (o : Option ℕ) → ((k : ℕ) × (o ≡ Some k)) ⊎ (o ≡ None)
found_or_not None = inr refl
found_or_not (Some k) = inl (k, refl)

pub first_at : (test : ℕ → Bool) (low high k : ℕ) → first_between test low high ≡ Some k
    → FirstAt test low high k
first_at test low high k e = subst (λ r. IsFirst test low high r) e (first_between_is test low high)

pub none_at : (test : ℕ → Bool) (low high : ℕ) → first_between test low high ≡ None → Nowhere test low high
none_at test low high e = subst (λ r. IsFirst test low high r) e (first_between_is test low high)

any_at : {X : Type 0} (t : X → Bool) (xs : List X) → list_any t xs ≡ true
    → (i : ℕ) × (x : X) × (slice_get xs i ≡ Some x) × (t x ≡ true)
any_at t [] h = absurd (let bad : ⊥ = cc in bad)
any_at {X} t (x ∷ xs) h = at (t x) refl h (λ g. any_at t xs g)
  where
    at : (b : Bool) → t x ≡ b → (b || list_any t xs) ≡ true
        → (list_any t xs ≡ true → (i : ℕ) × (y : X) × (slice_get xs i ≡ Some y) × (t y ≡ true))
        → (i : ℕ) × (y : X) × (slice_get (x ∷ xs) i ≡ Some y) × (t y ≡ true)
    at true is h rest = (0, x, refl, is)
    at false is h rest = let r = rest h in (suc r.0, r.1, r.2, r.3)

is_some_map : (o : Option Basic) (p : Part) → option_map (λ b. b.part) o ≡ Some p
    → (b : Basic) × (o ≡ Some b) × (b.part ≡ p)
is_some_map None p e = absurd (let bad : ⊥ = cc in bad)
is_some_map (Some b) p e = (b, refl, let h : b.part ≡ p = cc in h)

both_parts : (a b : Bool) → (a && b) ≡ true → (a ≡ true) × (b ≡ true)
both_parts true b h = (refl, h)
both_parts false b h = absurd (let bad : ⊥ = cc in bad)

-- the 10-minute interval over the basic intervals from an index up to another, where they reach a place
abbrev pub ten_over : ℤ → ℕ → ℕ → List Basic → ℕ → ℕ → Option Group
ten_over tick channels place bs k j =
    cond (reaches (parts_of (slice_range bs k j)) place)
    (Some (group_of (Some tick) channels (parts_of (slice_range bs k j)))) None

pub ten_found : (clock : Clock) (n channels : ℕ) (bs : List Basic) (tick next : ℤ)
    → ten_group clock n channels bs tick next
    ≡ option_and_then (λ k. ten_over tick channels (tick_place clock n next) bs k (segment_end bs k))
    (first_between (is_front_from bs (tick_place clock n tick)) 0 (length bs))
unfolding ten_group segment_of
ten_found clock n channels bs tick next =
    at (first_between (is_front_from bs (tick_place clock n tick)) 0 (length bs))
  where
    at : (o : Option ℕ) → option_and_then
        (λ segment. cond (reaches (parts_of segment) (tick_place clock n next))
        (Some (group_of (Some tick) channels (parts_of segment))) None) (option_map (segment_at bs) o)
        ≡ option_and_then (λ k. ten_over tick channels (tick_place clock n next) bs k (segment_end bs k)) o
    at None = refl
    at (Some k) = refl

module _ (channels w : ℕ) (bs rest : List Basic) (after : AllByRecursion (IsAfter w) rest) where
  late_ten : (tick : ℤ) (place k j : ℕ) → k < j → length bs < j → j ≤ length (bs ++ rest)
      → settled w (ten_over tick channels place (bs ++ rest) k j) ≡ None
  late_ten tick place k j some past inside = at (reaches (parts_of (slice_range (bs ++ rest) k j)) place)
    where
      at : (b : Bool) → settled w (cond b
          (Some (group_of (Some tick) channels (parts_of (slice_range (bs ++ rest) k j)))) None) ≡ None
      at true = ap (λ c. cond c (Some
          (group_of (Some tick) channels (parts_of (slice_range (bs ++ rest) k j)))) None)
          (late_group (Some tick) channels w bs rest k j after some past inside)
      at false = refl

  fronts_agree : (place k : ℕ) → k < length bs → is_front_from (bs ++ rest) place k ≡ is_front_from bs place k
  fronts_agree place k inside = ap (λ o. option_map_or (λ b. b.front && nat_le place b.part.start) o false)
      (get_left bs rest k inside)

  first_more : (place low k : ℕ) → first_between (is_front_from bs place) low (length bs) ≡ Some k
      → first_between (is_front_from (bs ++ rest) place) low (length (bs ++ rest)) ≡ Some k
  first_more place low k e =
      first_between_kept (is_front_from (bs ++ rest) place) low (length bs) (length (bs ++ rest)) k
      (omega (arith, length-append bs rest))
      (first_between_same (is_front_from (bs ++ rest) place) (is_front_from bs place) low (length bs)
      (λ i from below. fronts_agree place i below) ∙ e)

  -- where none is found so far, none comes before the end
  first_later : (place low k : ℕ) → first_between (is_front_from bs place) low (length bs) ≡ None
      → FirstAt (is_front_from (bs ++ rest) place) low (length (bs ++ rest)) k → length bs ≤ k
  first_later place low k e first =
      elim (cases_lt k (length bs)) [
        | inl less ↦ absurd (none_at (is_front_from bs place) low (length bs) e k first.after less
            (sym (fronts_agree place k less) ∙ first.passes))
        | inr from ↦ from
      ]

  same_over : (tick : ℤ) (place k j : ℕ) → k ≤ length bs → j ≤ length bs
      → ten_over tick channels place (bs ++ rest) k j ≡ ten_over tick channels place bs k j
  same_over tick place k j begun at =
      ap (λ xs. cond (reaches (parts_of xs) place) (Some (group_of (Some tick) channels (parts_of xs))) None)
      (range_kept bs rest k j begun at)

  -- the end of a segment that goes on to the end of the basic intervals so far
  end_past : (k : ℕ) → k < length bs → first_between (is_front_from bs 0) (k + 1) (length bs) ≡ None
      → length bs ≤ segment_end (bs ++ rest) k
  end_past k inside none = at (first_between (is_front_from (bs ++ rest) 0) (k + 1) (length (bs ++ rest)))
      refl
    where
      at : (o : Option ℕ) → first_between (is_front_from (bs ++ rest) 0) (k + 1) (length (bs ++ rest)) ≡ o
          → length bs ≤ unwrap_or o (length (bs ++ rest))
      at None e = omega (arith, length-append bs rest)
      at (Some j) e = first_later 0 (k + 1) j none
          (first_at (is_front_from (bs ++ rest) 0) (k + 1) (length (bs ++ rest)) j e)

  end_within : (k : ℕ) → segment_end (bs ++ rest) k ≤ length (bs ++ rest)
  end_within k = at (first_between (is_front_from (bs ++ rest) 0) (k + 1) (length (bs ++ rest))) refl
    where
      at : (o : Option ℕ) → first_between (is_front_from (bs ++ rest) 0) (k + 1) (length (bs ++ rest)) ≡ o
          → unwrap_or o (length (bs ++ rest)) ≤ length (bs ++ rest)
      at None e = omega arith
      at (Some j) e = let h = (first_at (is_front_from (bs ++ rest) 0) (k + 1) (length (bs ++ rest)) j
          e).below in omega (arith, h)

  -- a front before the end is the end
  end_before : (k j : ℕ) → k < j → j < length (bs ++ rest) → is_front_from (bs ++ rest) 0 j ≡ true
      → segment_end (bs ++ rest) k ≤ j
  end_before k j less inside front =
      at (first_between (is_front_from (bs ++ rest) 0) (k + 1) (length (bs ++ rest))) refl
    where
      at : (o : Option ℕ) → first_between (is_front_from (bs ++ rest) 0) (k + 1) (length (bs ++ rest)) ≡ o
          → unwrap_or o (length (bs ++ rest)) ≤ j
      at None e = absurd (none_at (is_front_from (bs ++ rest) 0) (k + 1) (length (bs ++ rest)) e j
          (omega (arith, less)) inside front)
      at (Some i) e =
          let first = first_at (is_front_from (bs ++ rest) 0) (k + 1) (length (bs ++ rest)) i e in
          elim (cases_lt j i) [
            | inl before ↦
                absurd (first.none_before j (omega (arith, less)) before front)
            | inr rest ↦ rest
          ]

  front_there : (j : ℕ) (y : Basic) → slice_get (bs ++ rest) j ≡ Some y → y.front ≡ true
      → is_front_from (bs ++ rest) 0 j ≡ true
  front_there j y is front =
      ap (λ o. option_map_or (λ b. b.front && nat_le 0 b.part.start) o false) is
      ∙ ap (λ c. c && nat_le 0 y.part.start) front ∙ least y.part.start
    where
      least : (s : ℕ) → nat_le 0 s ≡ true
      least s = grind (arith, nat_tests)

  lt_of : (a b : ℕ) → nat_lt a b ≡ true → a < b
  lt_of a b h = grind (arith, nat_tests, h)

  le_of : (a b : ℕ) → nat_le a b ≡ true → a ≤ b
  le_of a b h = grind (arith, nat_tests, h)

  -- what reaches the place ends there: no front is between, so the next basic interval begins a segment
  ends_there : (place k : ℕ) → k < length bs → EndsSegment (bs ++ rest) place
      → first_between (is_front_from bs 0) (k + 1) (length bs) ≡ None
      → length bs < segment_end (bs ++ rest) k
      → reaches (parts_of (slice_range bs k (length bs))) place ≡ true → ⊥
  ends_there place k inside ends none past reached =
      let n = length bs in
      let range = slice_range bs k n in
      let found = any_at (λ p. nat_lt p.start place && nat_le place p.end) (parts_of range) reached in
      let i = found.0 in
      let basic = is_some_map (slice_get range i) found.1 (sym (slice_get-map (λ b. b.part) range i)
      ∙ found.2) in
      let x = basic.0 in
      let within : i < n - k = let h = slice_get_within range i x basic.1 in
      omega (arith, h, length_range bs k n (omega arith)) in
      let at : slice_get (bs ++ rest) (k + i) ≡ Some x = get_left bs rest (k + i) (omega (arith, within))
      ∙ sym (get_range bs k n i within) ∙ basic.1 in
      let tests = both_parts (nat_lt found.1.start place) (nat_le place found.1.end) found.3 in
      let begun : x.part.start < place =
      subst (λ p. p.start < place) (sym basic.2) (lt_of found.1.start place tests.0) in
      let ended : place ≤ x.part.end =
      subst (λ p. place ≤ p.end) (sym basic.2) (le_of place found.1.end tests.1) in
      let room : k + i + 1 < length (bs ++ rest) = let h = end_within k in omega (arith, within, past, h) in
      let y : Basic = unwrap_or (slice_get (bs ++ rest) (k + i + 1)) x in
      let next : slice_get (bs ++ rest) (k + i + 1) ≡ Some y = there (bs ++ rest) (k + i + 1) x room in
      let front : is_front_from (bs ++ rest) 0 (k + i + 1) ≡ true =
      front_there (k + i + 1) y next (ends (k + i) x y at next begun ended) in
      let bound = end_before k (k + i + 1) (omega arith) room front in
      omega (arith, bound, past, within)
    where
      there : (xs : List Basic) (j : ℕ) (d : Basic) → j < length xs
          → slice_get xs j ≡ Some (unwrap_or (slice_get xs j) d)
      there [] j d h = absurd (omega (arith, h))
      there (z ∷ zs) zero d h = refl
      there (z ∷ zs) (suc j) d h = there zs j d (omega (arith, h))

  end_ahead : (k : ℕ) → k < length (bs ++ rest) → k < segment_end (bs ++ rest) k
  end_ahead k inside = at (first_between (is_front_from (bs ++ rest) 0) (k + 1) (length (bs ++ rest))) refl
    where
      at : (o : Option ℕ) → first_between (is_front_from (bs ++ rest) 0) (k + 1) (length (bs ++ rest)) ≡ o
          → k < unwrap_or o (length (bs ++ rest))
      at None e = inside
      at (Some j) e = let h = (first_at (is_front_from (bs ++ rest) 0) (k + 1) (length (bs ++ rest)) j
          e).after in omega (arith, h)

  -- a 10-minute interval whose segment begins so far
  over_settled : (tick : ℤ) (place k : ℕ) → k < length bs → EndsSegment (bs ++ rest) place
      → settled w (ten_over tick channels place (bs ++ rest) k (segment_end (bs ++ rest) k))
      ≡ settled w (ten_over tick channels place bs k (segment_end bs k))
  over_settled tick place k inside ends =
      let n = length bs in
      elim (found_or_not (first_between (is_front_from bs 0) (k + 1) n)) [
        | inl found ↦
            let j = found.0 in
            let first = first_at (is_front_from bs 0) (k + 1) n j found.1 in
            let below = first.below in
            ap (λ o. settled w (ten_over tick channels place (bs ++ rest) k
            (unwrap_or o (length (bs ++ rest))))) (first_more 0 (k + 1) j found.1)
            ∙ ap (settled w) (same_over tick place k j (omega (arith, inside)) (omega (arith, below)))
            ∙ sym (ap (λ o. settled w (ten_over tick channels place bs k (unwrap_or o n))) found.1)
        | inr none ↦
            let short : segment_end bs k ≡ n = ap (λ o. unwrap_or o n) none in
            elim (cases_lt n (segment_end (bs ++ rest) k)) [
              | inl past ↦
                  late_ten tick place k (segment_end (bs ++ rest) k) (omega (arith, inside, past)) past
                  (end_within k)
                  ∙ sym (ap (λ j. settled w (ten_over tick channels place bs k j)) short
                  ∙ unreached (reaches (parts_of (slice_range bs k n)) place) refl none past)
              | inr back ↦
                  let same : segment_end (bs ++ rest) k ≡ n = let h = end_past k inside none in
                  omega (arith, back, h) in
                  ap (λ j. settled w (ten_over tick channels place (bs ++ rest) k j)) same
                  ∙ ap (settled w) (same_over tick place k n (omega (arith, inside)) (omega arith))
                  ∙ sym (ap (λ j. settled w (ten_over tick channels place bs k j)) short)
            ]
      ]
    where
      unreached : (b : Bool) → reaches (parts_of (slice_range bs k (length bs))) place ≡ b
          → first_between (is_front_from bs 0) (k + 1) (length bs) ≡ None
          → length bs < segment_end (bs ++ rest) k
          → settled w (cond b (Some (group_of (Some tick) channels (parts_of (slice_range bs k (length bs)))))
          None) ≡ None
      unreached true is none past = absurd (ends_there place k inside ends none past is)
      unreached false is none past = refl

  pub ten_settled : (clock : Clock) (n : ℕ) (tick next : ℤ)
      → EndsSegment (bs ++ rest) (tick_place clock n next)
      → settled w (ten_group clock n channels (bs ++ rest) tick next)
      ≡ settled w (ten_group clock n channels bs tick next)
  ten_settled clock n tick next ends =
      let place = tick_place clock n next in
      let begun = tick_place clock n tick in
      ap (settled w) (ten_found clock n channels (bs ++ rest) tick next)
      ∙ elim (found_or_not (first_between (is_front_from bs begun) 0 (length bs))) [
        | inl found ↦
            let k = found.0 in
            let first = first_at (is_front_from bs begun) 0 (length bs) k found.1 in
            ap (λ o. settled w (option_and_then
            (λ k. ten_over tick channels place (bs ++ rest) k (segment_end (bs ++ rest) k)) o))
            (first_more begun 0 k found.1)
            ∙ over_settled tick place k first.below ends
            ∙ sym (ap (λ o. settled w (option_and_then
            (λ k. ten_over tick channels place bs k (segment_end bs k)) o)) found.1)
        | inr none ↦
            later (first_between (is_front_from (bs ++ rest) begun) 0 (length (bs ++ rest))) refl none
            ∙ sym (ap (λ o. settled w (option_and_then
            (λ k. ten_over tick channels place bs k (segment_end bs k)) o)) none)
      ]
      ∙ sym (ap (settled w) (ten_found clock n channels bs tick next))
    where
      later : (o : Option ℕ) → first_between (is_front_from (bs ++ rest) (tick_place clock n tick)) 0
          (length (bs ++ rest)) ≡ o
          → first_between (is_front_from bs (tick_place clock n tick)) 0 (length bs) ≡ None
          → settled w (option_and_then (λ k.
          ten_over tick channels (tick_place clock n next) (bs ++ rest) k (segment_end (bs ++ rest) k)) o)
          ≡ None
      later None e none = refl
      later (Some k) e none =
          let first = first_at (is_front_from (bs ++ rest) (tick_place clock n tick)) 0 (length (bs ++ rest))
          k e in
          let late = first_later (tick_place clock n tick) 0 k none first in
          let below = first.below in
          let ahead = end_ahead k below in
          late_ten tick (tick_place clock n next) k (segment_end (bs ++ rest) k) ahead
          (omega (arith, late, ahead)) (end_within k)

-- ---- all of them

settled_cons : (w : ℕ) (o : Option Group) (gs : List Group)
    → filter (ends_by w) (cons_option o gs) ≡ cons_option (settled w o) (filter (ends_by w) gs)
settled_cons w None gs = refl
settled_cons w (Some g) gs = at (ends_by w g)
  where
    at : (b : Bool) → cond b (g ∷ filter (ends_by w) gs) (filter (ends_by w) gs)
        ≡ cons_option (cond b (Some g) None) (filter (ends_by w) gs)
    at true = refl
    at false = refl

pub filter_map_settled : {X : Type 0} (w : ℕ) (f h : X → Option Group) (xs : List X)
    → AllByRecursion (λ x. settled w (f x) ≡ settled w (h x)) xs
    → filter (ends_by w) (filter_map f xs) ≡ filter (ends_by w) (filter_map h xs)
filter_map_settled w f h [] same = refl
filter_map_settled w f h (x ∷ xs) same =
    settled_cons w (f x) (filter_map f xs)
    ∙ ap (λ o. cons_option o (filter (ends_by w) (filter_map f xs))) same.0
    ∙ ap (cons_option (settled w (h x))) (filter_map_settled w f h xs same.1)
    ∙ sym (settled_cons w (h x) (filter_map h xs))

-- the 10-minute intervals that end by w
pub tens_settled : (clock : Clock) (n channels w : ℕ) (bs rest : List Basic) → AllByRecursion (IsAfter w) rest
    → AllByRecursion (λ p. EndsSegment (bs ++ rest) (tick_place clock n p.1)) (tick_pairs clock n 600)
    → filter (ends_by w) (ten_groups clock n channels (bs ++ rest))
    ≡ filter (ends_by w) (ten_groups clock n channels bs)
unfolding ten_groups
tens_settled clock n channels w bs rest after ends =
    filter_map_settled w (λ p. ten_group clock n channels (bs ++ rest) p.0 p.1)
    (λ p. ten_group clock n channels bs p.0 p.1) (tick_pairs clock n 600)
    (each (tick_pairs clock n 600) ends)
  where
    each : (ps : List (ℤ × ℤ)) → AllByRecursion (λ p. EndsSegment (bs ++ rest) (tick_place clock n p.1)) ps
        → AllByRecursion (λ p. settled w (ten_group clock n channels (bs ++ rest) p.0 p.1)
        ≡ settled w (ten_group clock n channels bs p.0 p.1)) ps
    each [] h = tt
    each (p ∷ ps) h = (ten_settled channels w bs rest after clock n p.0 p.1 h.0, each ps h.1)
