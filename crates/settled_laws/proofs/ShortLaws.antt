-- More basic intervals, that end after a place: the 150/180-cycle intervals that end by it stay the same.
use Rattle.std.proofs.Common.{◌≡◌, ℕ, zero, suc, ◌+◌, ◌-◌, ◌<◌, ◌≤◌, Bool, false, cond, nat_le, List, [], ◌∷◌, ◌++◌, length, map, filter, take, drop, ℤ, Option, Some, None, option_map, slice_get, slice_range, refl, ◌∙◌, ap, arith}
use Rattle.std.specs.List.{AllByRecursion}
use Rattle.std.specs.Option.{option_map_or}
use Rattle.std.proofs.lemmas.Bool.Decides.{nat_tests}
use Rattle.std.proofs.lemmas.List.{map-append, length-map, length-append, length-take, length-drop, take-append-le, drop-append-le, append-nil}
use Rattle.std.proofs.lemmas.List.Elements.{filter-append}
use Rattle.std.proofs.lemmas.Option.{slice_get-map}
use Rattle.aggregate.specs.declared.group.Group.{Group}
use Rattle.aggregate.specs.Aggregation.{Basic, group_of, parts_of, segment_starts, short_groups}
use Rattle.ten_twelve.specs.declared.span.Span.{Span}
use Rattle.ten_twelve.specs.Run.{runs, marked}
use Rattle.settled_laws.proofs.PrefixRuns.{IsRunIn, runs_inside, later_runs, runs_more, later_past, marked_from, marked_more, marked_late}

-- ---- positions

get_drop : {X : Type 0} (n i : ℕ) (xs : List X) → slice_get (drop n xs) i ≡ slice_get xs (n + i)
get_drop zero i xs = let e : i ≡ 0 + i = omega arith in ap (slice_get xs) e
get_drop (suc n) i [] = refl
get_drop (suc n) i (x ∷ xs) = let e : suc (n + i) ≡ suc n + i = omega arith in get_drop n i xs
    ∙ ap (slice_get (x ∷ xs)) e

get_take : {X : Type 0} (n i : ℕ) (xs : List X) → i < n → slice_get (take n xs) i ≡ slice_get xs i
get_take zero i xs h = absurd (omega (arith, h))
get_take (suc n) i [] h = refl
get_take (suc n) zero (x ∷ xs) h = refl
get_take (suc n) (suc i) (x ∷ xs) h = get_take n i xs (omega (arith, h))

pub get_range : {X : Type 0} (xs : List X) (a b i : ℕ) → i < b - a
    → slice_get (slice_range xs a b) i ≡ slice_get xs (a + i)
get_range xs a b i h = get_take (b - a) i (drop a xs) h ∙ get_drop a i xs

pub length_range : {X : Type 0} (xs : List X) (a b : ℕ) → b ≤ length xs → length (slice_range xs a b) ≡ b - a
length_range xs a b h = length-take (b - a) (drop a xs) ∙ omega (arith, length-drop a xs, h)

pub range_kept : {X : Type 0} (xs ys : List X) (a b : ℕ) → a ≤ length xs → b ≤ length xs
    → slice_range (xs ++ ys) a b ≡ slice_range xs a b
range_kept xs ys a b begun at =
    ap (take (b - a)) (drop-append-le a xs ys begun)
    ∙ take-append-le (b - a) (drop a xs) ys (omega (arith, length-drop a xs, begun, at))

-- ---- where a group ends

-- the end of the basic interval at an index
abbrev pub basic_end : List Basic → ℕ → ℕ
basic_end bs i = option_map_or (λ b. b.part.end) (slice_get bs i) 0

mapped_end : (o : Option Basic)
    → option_map_or (λ p. p.end) (option_map (λ b. b.part) o) 0 ≡ option_map_or (λ b. b.part.end) o 0
mapped_end None = refl
mapped_end (Some b) = refl

-- a group of consecutive basic intervals ends where the last of them does
pub group_end : (tick : Option ℤ) (channels : ℕ) (bs : List Basic) (a b : ℕ) → a < b → b ≤ length bs
    → (group_of tick channels (parts_of (slice_range bs a b))).end ≡ basic_end bs (b - 1)
unfolding group_of
group_end tick channels bs a b some inside =
    let range = slice_range bs a b in
    let many : length (parts_of range) ≡ b - a = length-map range (λ b. b.part)
    ∙ length_range bs a b inside in
    let last : a + (b - a - 1) ≡ b - 1 = omega (arith, some) in
    ap (λ n. option_map_or (λ p. p.end) (slice_get (parts_of range) (n - 1)) 0) many
    ∙ ap (λ o. option_map_or (λ p. p.end) o 0) (slice_get-map (λ b. b.part) range (b - a - 1))
    ∙ mapped_end (slice_get range (b - a - 1))
    ∙ ap (λ o. option_map_or (λ b. b.part.end) o 0) (get_range bs a b (b - a - 1) (omega (arith, some))
    ∙ ap (slice_get bs) last)

-- ---- more basic intervals

-- the basic interval ends after place w
abbrev pub IsAfter : ℕ → Basic → Type 0
IsAfter w b = w < b.part.end

pub end_after : (w : ℕ) (bs rest : List Basic) (i : ℕ) → AllByRecursion (IsAfter w) rest → length bs ≤ i
    → i < length (bs ++ rest) → w < basic_end (bs ++ rest) i
end_after w [] [] i h from below = absurd (omega (arith, below))
end_after w [] (y ∷ ys) zero h from below = h.0
end_after w [] (y ∷ ys) (suc i) h from below = end_after w [] ys i h.1 (omega arith) (omega (arith, below))
end_after w (x ∷ xs) ys zero h from below = absurd (omega (arith, from))
end_after w (x ∷ xs) ys (suc i) h from below =
    end_after w xs ys i h (omega (arith, from)) (omega (arith, below))

-- the group ends by place w
abbrev pub ends_by : ℕ → Group → Bool
ends_by w g = nat_le g.end w

not_by : (a w : ℕ) → w < a → nat_le a w ≡ false
not_by a w h = grind (arith, nat_tests, h)

pub late_group : (tick : Option ℤ) (channels w : ℕ) (bs rest : List Basic) (a b : ℕ)
    → AllByRecursion (IsAfter w) rest → a < b → length bs < b → b ≤ length (bs ++ rest)
    → ends_by w (group_of tick channels (parts_of (slice_range (bs ++ rest) a b))) ≡ false
late_group tick channels w bs rest a b after some past inside =
    let late : w < basic_end (bs ++ rest) (b - 1) =
    end_after w bs rest (b - 1) after (omega (arith, past)) (omega (arith, past, inside)) in
    ap (λ n. nat_le n w) (group_end tick channels (bs ++ rest) a b some inside)
    ∙ not_by (basic_end (bs ++ rest) (b - 1)) w late

pub starts_more : (bs rest : List Basic)
    → segment_starts (bs ++ rest) ≡ segment_starts bs
    ++ marked_from (0 + length (map (λ b. b.front) bs)) (map (λ b. b.front) rest)
starts_more bs rest = ap marked (map-append (λ b. b.front) bs rest)
    ∙ marked_more (map (λ b. b.front) bs) (map (λ b. b.front) rest)

groups_same : (f g : Span → Group) (m n : ℕ) (rs : List Span) → AllByRecursion (IsRunIn m n) rs
    → ((run : Span) → IsRunIn m n run → f run ≡ g run) → map f rs ≡ map g rs
groups_same f g m n [] all same = refl
groups_same f g m n (r ∷ rs) all same = ap (λ x. x ∷ map f rs) (same r all.0)
    ∙ ap (λ xs. g r ∷ xs) (groups_same f g m n rs all.1 same)

none_by : (f : Span → Group) (p : Group → Bool) (P : Span → Type 0) (rs : List Span) → AllByRecursion P rs
    → ((run : Span) → P run → p (f run) ≡ false) → filter p (map f rs) ≡ []
none_by f p P [] all fails = refl
none_by f p P (r ∷ rs) all fails =
    ap (λ b. cond b (f r ∷ filter p (map f rs)) (filter p (map f rs))) (fails r all.0)
    ∙ none_by f p P rs all.1 fails

-- the 150/180-cycle intervals that end by w
pub shorts_settled : (channels w : ℕ) (bs rest : List Basic) → AllByRecursion (IsAfter w) rest
    → filter (ends_by w) (short_groups channels (bs ++ rest)) ≡ filter (ends_by w) (short_groups channels bs)
unfolding short_groups
shorts_settled channels w bs rest after =
    let n = length bs in
    let d = length rest in
    let starts = segment_starts bs in
    let more = marked_from (0 + length (map (λ b. b.front) bs)) (map (λ b. b.front) rest) in
    let longer : Span → Group = λ run.
    group_of None channels (parts_of (slice_range (bs ++ rest) run.start run.end)) in
    let shorter : Span → Group = λ run.
    group_of None channels (parts_of (slice_range bs run.start run.end)) in
    let count : length (bs ++ rest) ≡ n + d = length-append bs rest in
    let late : AllByRecursion (λ g. n ≤ g) more =
    marked_late n (0 + length (map (λ b. b.front) bs)) (map (λ b. b.front) rest)
    (omega (arith, length-map bs (λ (b : Basic). b.front))) in
    let parts : runs (segment_starts (bs ++ rest)) 15 (length (bs ++ rest)) ≡ runs starts 15 n
    ++ later_runs (starts ++ more) 15 n d =
    ap (λ s. runs s 15 (length (bs ++ rest))) (starts_more bs rest)
    ∙ ap (λ k. runs (starts ++ more) 15 k) count ∙ runs_more starts more 15 n d (omega arith) late in
    ap (λ rs. filter (ends_by w) (map longer rs)) parts
    ∙ ap (filter (ends_by w)) (map-append longer (runs starts 15 n) (later_runs (starts ++ more) 15 n d))
    ∙ filter-append (ends_by w) (map longer (runs starts 15 n))
    (map longer (later_runs (starts ++ more) 15 n d))
    ∙ ap (λ gs. filter (ends_by w) gs ++ filter (ends_by w) (map longer (later_runs (starts ++ more) 15 n d)))
    (groups_same longer shorter 15 n (runs starts 15 n) (runs_inside starts 15 n)
    (λ run h. ap (λ b. group_of None channels (parts_of b))
    (range_kept bs rest run.start run.end (omega (arith, h.0, h.1)) h.1)))
    ∙ ap (λ gs. filter (ends_by w) (map shorter (runs starts 15 n)) ++ gs)
    (none_by longer (ends_by w) (λ run. (run.start + 15 ≡ run.end) × (n < run.end) × (run.end ≤ n + d))
    (later_runs (starts ++ more) 15 n d) (later_past (starts ++ more) 15 n d)
    (λ run h. late_group None channels w bs rest run.start run.end after (omega (arith, h.0)) h.1
    (omega (arith, h.2, count))))
    ∙ append-nil (filter (ends_by w) (map shorter (runs starts 15 n)))
