-- A tick's segment by recursion over the basic intervals, and of a list whose last segment is known.
use Rattle.std.proofs.Common.{◌≡◌, ℕ, zero, suc, ◌+◌, ◌-◌, ◌<◌, Bool, true, false, cond, ◌&&◌, ◌||◌, nat_lt, nat_le, List, [], ◌∷◌, ◌++◌, length, take, drop, Option, Some, None, option_map, unwrap_or, refl, sym, ◌∙◌, ap, arith}
use Rattle.std.specs.List.{AllByRecursion}
use Rattle.std.specs.Option.{option_or}
use Rattle.std.proofs.lemmas.Bool.Decides.{nat_tests}
use Rattle.aggregate.specs.Aggregation.{Part, Basic, is_front_from, segment_end, segment_at, segment_of, reaches}
use Rattle.pq_words.specs.First.{first_of, first_between}

-- ---- a tick's segment by recursion

-- the basic intervals up to the next that begins a segment
abbrev pub until_front : List Basic → List Basic
until_front [] = []
until_front (b ∷ bs) = cond b.front [] (b ∷ until_front bs)

-- the segment that begins at the place or after it
abbrev pub segment_from : ℕ → List Basic → Option (List Basic)
segment_from place [] = None
segment_from place (b ∷ bs) =
    cond (b.front && nat_le place b.part.start) (Some (b ∷ until_front bs)) (segment_from place bs)

later_first : (t : ℕ → Bool) (low n : ℕ) → first_of t (suc low) n
    ≡ option_map (λ k. suc k) (first_of (λ k. t (suc k)) low n)
unfolding first_of
later_first t low zero = refl
later_first t low (suc n) =
    let one : suc low + 1 ≡ suc (low + 1) = omega arith in
    let rest = ap (λ k. first_of t k n) one ∙ later_first t (low + 1) n in
    ap (λ o. cond (t (suc low)) (Some (suc low)) o) rest
    ∙ at (t (suc low)) (first_of (λ k. t (suc k)) (low + 1) n)
  where
    at : (b : Bool) (o : Option ℕ) → cond b (Some (suc low)) (option_map (λ k. suc k) o)
        ≡ option_map (λ k. suc k) (cond b (Some low) o)
    at true o = refl
    at false o = refl

later_between : (t : ℕ → Bool) (low high : ℕ) → first_between t (suc low) (suc high)
    ≡ option_map (λ k. suc k) (first_between (λ k. t (suc k)) low high)
unfolding first_between
later_between t low high =
    let e : suc high - suc low ≡ high - low = omega arith in
    ap (first_of t (suc low)) e ∙ later_first t low (high - low)

-- the first of one place more
first_cons : (t : ℕ → Bool) (n : ℕ) → first_between t 0 (suc n)
    ≡ cond (t 0) (Some 0) (option_map (λ k. suc k) (first_between (λ k. t (suc k)) 0 n))
unfolding first_between first_of
first_cons t n =
    let e : suc n - 0 ≡ suc n = omega arith in
    let d : n - 0 ≡ n = omega arith in
    ap (first_of t 0) e
    ∙ ap (λ o. cond (t 0) (Some 0) o)
    (later_first t 0 n ∙ sym (ap (λ m. option_map (λ k. suc k) (first_of (λ k. t (suc k)) 0 m)) d))

later_end : (o : Option ℕ) (n : ℕ) → unwrap_or (option_map (λ k. suc k) o) (suc n) ≡ suc (unwrap_or o n)
later_end None n = refl
later_end (Some k) n = refl

-- where the segment of a later index ends
end_later : (b : Basic) (bs : List Basic) (k : ℕ) → segment_end (b ∷ bs) (suc k) ≡ suc (segment_end bs k)
end_later b bs k =
    let e : suc k + 1 ≡ suc (k + 1) = omega arith in
    ap (λ m. unwrap_or (first_between (is_front_from (b ∷ bs) 0) m (suc (length bs))) (suc (length bs))) e
    ∙ ap (λ o. unwrap_or o (suc (length bs))) (later_between (is_front_from (b ∷ bs) 0) (k + 1) (length bs))
    ∙ later_end (first_between (is_front_from bs 0) (k + 1) (length bs)) (length bs)

at_later : (b : Basic) (bs : List Basic) (k : ℕ) → segment_at (b ∷ bs) (suc k) ≡ segment_at bs k
at_later b bs k =
    let e : suc (segment_end bs k) - suc k ≡ segment_end bs k - k = omega arith in
    ap (λ m. take (m - suc k) (drop k bs)) (end_later b bs k) ∙ ap (λ m. take m (drop k bs)) e

front_at : (b : Basic) → (b.front && nat_le 0 b.part.start) ≡ b.front
front_at b = at b.front (least b.part.start)
  where
    least : (s : ℕ) → nat_le 0 s ≡ true
    least s = grind (arith, nat_tests)

    at : (f : Bool) → nat_le 0 b.part.start ≡ true → (f && nat_le 0 b.part.start) ≡ f
    at true h = h
    at false h = refl

-- up to the first that begins a segment
until_first : (bs : List Basic)
    → take (unwrap_or (first_between (is_front_from bs 0) 0 (length bs)) (length bs)) bs ≡ until_front bs
unfolding first_between first_of
until_first [] = refl
until_first (b ∷ bs) =
    ap (λ o. take (unwrap_or o (suc (length bs))) (b ∷ bs)) (first_cons (is_front_from (b ∷ bs) 0)
    (length bs))
    ∙ ap (λ f. take (unwrap_or (cond f (Some 0) (option_map (λ k. suc k) (first_between
    (is_front_from bs 0) 0 (length bs)))) (suc (length bs))) (b ∷ bs))
    (front_at b)
    ∙ at b.front (first_between (is_front_from bs 0) 0 (length bs)) (until_first bs)
  where
    at : (f : Bool) (o : Option ℕ) → take (unwrap_or o (length bs)) bs ≡ until_front bs
        → take (unwrap_or (cond f (Some 0) (option_map (λ k. suc k) o)) (suc (length bs))) (b ∷ bs)
        ≡ cond f [] (b ∷ until_front bs)
    at true o rest = refl
    at false o rest =
        ap (λ m. take m (b ∷ bs)) (later_end o (length bs)) ∙ ap (λ xs. b ∷ xs) rest

-- the segment of the first index
at_first : (b : Basic) (bs : List Basic) → segment_at (b ∷ bs) 0 ≡ b ∷ until_front bs
at_first b bs =
    let e : segment_end (b ∷ bs) 0 ≡ suc (unwrap_or (first_between (is_front_from bs 0) 0 (length bs))
    (length bs)) =
    ap (λ o. unwrap_or o (suc (length bs))) (later_between (is_front_from (b ∷ bs) 0) 0 (length bs))
    ∙ later_end (first_between (is_front_from bs 0) 0 (length bs)) (length bs) in
    let d : suc (unwrap_or (first_between (is_front_from bs 0) 0 (length bs)) (length bs)) - 0
    ≡ suc (unwrap_or (first_between (is_front_from bs 0) 0 (length bs)) (length bs)) = omega arith in
    ap (λ m. take (m - 0) (b ∷ bs)) e ∙ ap (λ m. take m (b ∷ bs)) d ∙ ap (λ xs. b ∷ xs) (until_first bs)

pub segment_is : (place : ℕ) (bs : List Basic) → segment_of bs place ≡ segment_from place bs
unfolding segment_of first_between first_of
segment_is place [] = refl
segment_is place (b ∷ bs) =
    ap (option_map (segment_at (b ∷ bs))) (first_cons (is_front_from (b ∷ bs) place) (length bs))
    ∙ at (b.front && nat_le place b.part.start) (first_between (is_front_from bs place) 0 (length bs))
    (segment_is place bs)
  where
    moved : (o : Option ℕ) → option_map (segment_at (b ∷ bs)) (option_map (λ k. suc k) o)
        ≡ option_map (segment_at bs) o
    moved None = refl
    moved (Some k) = ap Some (at_later b bs k)

    at : (f : Bool) (o : Option ℕ) → option_map (segment_at bs) o ≡ segment_from place bs
        → option_map (segment_at (b ∷ bs)) (cond f (Some 0) (option_map (λ k. suc k) o))
        ≡ cond f (Some (b ∷ until_front bs)) (segment_from place bs)
    at true o rest = ap Some (at_first b bs)
    at false o rest = moved o ∙ rest

-- ---- the last segment of a list

-- those after the first begin no segment
abbrev pub AreWithin : List Basic → Type 0
AreWithin bs = AllByRecursion (λ b. b.front ≡ false) bs

until_kept : (bs rest : List Basic) (f : Basic) → f.front ≡ true → until_front (bs ++ f ∷ rest)
    ≡ until_front bs
until_kept [] rest f begins = ap (λ c. cond c [] (f ∷ until_front rest)) begins
until_kept (b ∷ bs) rest f begins = ap (λ xs. cond b.front [] (b ∷ xs)) (until_kept bs rest f begins)

until_end : (bs : List Basic) → AreWithin bs → until_front bs ≡ bs
until_end [] h = refl
until_end (b ∷ bs) h = ap (λ c. cond c [] (b ∷ until_front bs)) h.0 ∙ ap (λ xs. b ∷ xs) (until_end bs h.1)

none_within : (place : ℕ) (bs : List Basic) → AreWithin bs → segment_from place bs ≡ None
none_within place [] h = refl
none_within place (b ∷ bs) h =
    ap (λ c. cond (c && nat_le place b.part.start) (Some (b ∷ until_front bs)) (segment_from place bs)) h.0
    ∙ none_within place bs h.1

-- a tick's segment is one before the last, or else the last, if that begins at its place or after it
pub segment_split : (place : ℕ) (before rest : List Basic) (f : Basic) → f.front ≡ true → AreWithin rest
    → segment_from place (before ++ f ∷ rest)
    ≡ option_or (segment_from place before) (cond (nat_le place f.part.start) (Some (f ∷ rest)) None)
segment_split place [] rest f begins within =
    ap (λ c. cond (c && nat_le place f.part.start) (Some (f ∷ until_front rest))
    (segment_from place rest)) begins
    ∙ ap (λ xs. cond (nat_le place f.part.start) (Some (f ∷ xs)) (segment_from place rest))
    (until_end rest within)
    ∙ ap (λ o. cond (nat_le place f.part.start) (Some (f ∷ rest)) o) (none_within place rest within)
segment_split place (b ∷ bs) rest f begins within =
    ap (λ xs. cond (b.front && nat_le place b.part.start) (Some (b ∷ xs)) (segment_from place
    (bs ++ f ∷ rest)))
    (until_kept bs rest f begins)
    ∙ ap (λ o. cond (b.front && nat_le place b.part.start) (Some (b ∷ until_front bs)) o)
    (segment_split place bs rest f begins within)
    ∙ at (b.front && nat_le place b.part.start)
  where
    last : Option (List Basic)
    last = cond (nat_le place f.part.start) (Some (f ∷ rest)) None

    at : (c : Bool) → cond c (Some (b ∷ until_front bs)) (option_or (segment_from place bs) last)
        ≡ option_or (cond c (Some (b ∷ until_front bs)) (segment_from place bs)) last
    at true = refl
    at false = refl

-- none where all begin before the place
pub none_from : (place : ℕ) (bs : List Basic) → AllByRecursion (λ b. b.part.start < place) bs
    → segment_from place bs ≡ None
none_from place [] h = refl
none_from place (b ∷ bs) h =
    ap (λ c. cond c (Some (b ∷ until_front bs)) (segment_from place bs)) (fails b.front b.part.start h.0)
    ∙ none_from place bs h.1
  where
    not_le : (s : ℕ) → s < place → nat_le place s ≡ false
    not_le s h = grind (arith, nat_tests, h)

    fails : (f : Bool) (s : ℕ) → s < place → (f && nat_le place s) ≡ false
    fails true s h = not_le s h
    fails false s h = refl

-- ---- what reaches a place

-- a part begins before the place and ends at it or after it
abbrev pub reaches_it : ℕ → Part → Bool
reaches_it place p = nat_lt p.start place && nat_le place p.end

pub reached_last : (place : ℕ) (ps : List Part) (p : Part) → AllByRecursion (λ q. reaches_it place q
    ≡ false) ps
    → reaches (ps ++ p ∷ []) place ≡ reaches_it place p
reached_last place [] p h = or_false (reaches_it place p)
  where
    or_false : (b : Bool) → (b || false) ≡ b
    or_false true = refl
    or_false false = refl
reached_last place (q ∷ ps) p h =
    ap (λ b. b || reaches (ps ++ p ∷ []) place) h.0 ∙ reached_last place ps p h.1

pub not_reached : (place : ℕ) (ps : List Part) → AllByRecursion (λ q. reaches_it place q ≡ false) ps
    → reaches ps place ≡ false
not_reached place [] h = refl
not_reached place (q ∷ ps) h = ap (λ b. b || reaches ps place) h.0 ∙ not_reached place ps h.1
