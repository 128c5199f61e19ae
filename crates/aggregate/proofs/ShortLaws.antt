-- One more basic interval: whether a run of fifteen begins with it, and what it completes.
use Rattle.std.proofs.Common.{◌≡◌, ℕ, zero, suc, ◌+◌, ◌-◌, ◌<◌, ◌≤◌, Bool, true, false, cond, not, ◌||◌, List, [], ◌∷◌, ◌++◌, length, get_or, map, filter, take, drop, replicate, Option, Some, None, option_to_list, slice_get, slice_range, refl, sym, ◌∙◌, ap, subst, inl, inr, arith, append_assoc}
use Rattle.std.specs.List.{list_any}
use Rattle.std.specs.Option.{option_map_or}
use Rattle.std.proofs.lemmas.Bool.{cases_lt}
use Rattle.std.proofs.lemmas.List.{drop-append-le, length-drop, length-map, length_push, map-append, take-append-le, take_all}
use Rattle.std.proofs.lemmas.List.Folds.{list_any-append}
use Rattle.aggregate.specs.declared.group.Group.{Group}
use Rattle.aggregate.specs.declared.short.Recent.{Recent}
use Rattle.aggregate.specs.Aggregation.{Basic, Part, group_of, parts_of, segment_starts, short_groups}
use Rattle.aggregate.specs.BasicOrder.{BeginsAtFront}
use Rattle.aggregate.specs.ShortSums.{Completes, RecentView, SeesMore, ShortView, begins_next, completed_by, latest, no_part, none_yet, part_at, recent_at, recent_view, with_next}
use Rattle.aggregate.specs.Sum.{part_of}
use Rattle.pq_words.specs.Steps.{numbers_below, numbers_from}
use Rattle.pq_words.proofs.StepLaws.{numbers_push}
use Rattle.ten_twelve.specs.Chopper.{BeginsAtFront as ElementsBeginAtFront}
use Rattle.ten_twelve.specs.declared.span.Span.{Span}
use Rattle.ten_twelve.specs.Run.{Element, PendingRun, begins_run, fronts, marked, pending_from, pending_runs, run_from, runs}
use Rattle.ten_twelve.specs.Unfinished.{is_nil}
use Rattle.ten_twelve.proofs.BeginLaws.{begins_with}
use Rattle.ten_twelve.proofs.NumberLemmas.{filter_agree, numbers_filter_push}
use Rattle.ten_twelve.proofs.PendingLaws.{begins_kept, pending_runs_latest}

-- ---- functions over numbers

agree : {X : Type 0} (f g : ℕ → X) (low n : ℕ) → ((k : ℕ) → low ≤ k → k < low + n → f k ≡ g k)
    → map f (numbers_from low n) ≡ map g (numbers_from low n)
unfolding numbers_from
agree f g low zero same = refl
agree f g low (suc n) same =
    ap (λ x. x ∷ map f (numbers_from (low + 1) n)) (same low (omega arith) (omega arith))
    ∙ ap (λ xs. g low ∷ xs)
    (agree f g (low + 1) n (λ k from below. same k (omega (arith, from)) (omega (arith, below))))

shift : {X : Type 0} (f : ℕ → X) (low n : ℕ) → map f (numbers_from (low + 1) n)
    ≡ map (λ k. f (k + 1)) (numbers_from low n)
unfolding numbers_from
shift f low zero = refl
shift f low (suc n) = ap (λ xs. f (low + 1) ∷ xs) (shift f (low + 1) n)

map_twice : {X Y Z : Type 0} (f : X → Y) (g : Y → Z) (xs : List X) → map g (map f xs) ≡ map (λ x. g (f x)) xs
map_twice f g [] = refl
map_twice f g (x ∷ xs) = ap (λ zs. g (f x) ∷ zs) (map_twice f g xs)

map_cond : {Y : Type 0} (f : ℕ → Y) (b : Bool) (x : ℕ) → map f (cond b (x ∷ []) []) ≡ cond b (f x ∷ []) []
map_cond f true x = refl
map_cond f false x = refl

map_agree : {Y : Type 0} (f g : ℕ → Y) (p : ℕ → Bool) (low n : ℕ)
    → ((x : ℕ) → low ≤ x → x < low + n → f x ≡ g x)
    → map f (filter p (numbers_from low n)) ≡ map g (filter p (numbers_from low n))
unfolding numbers_from
map_agree f g p low zero same = refl
map_agree f g p low (suc n) same = at (p low) (same low (omega arith) (omega arith))
    (map_agree f g p (low + 1) n (λ x from below. same x (omega (arith, from)) (omega (arith, below))))
  where
    at : (b : Bool) → f low ≡ g low → map f (filter p (numbers_from (low + 1) n))
        ≡ map g (filter p (numbers_from (low + 1) n))
        → map f (cond b (low ∷ filter p (numbers_from (low + 1) n)) (filter p (numbers_from (low + 1) n)))
        ≡ map g (cond b (low ∷ filter p (numbers_from (low + 1) n)) (filter p (numbers_from (low + 1) n)))
    at true here rest = ap (λ y. y ∷ map f (filter p (numbers_from (low + 1) n))) here
        ∙ ap (λ ys. g low ∷ ys) rest
    at false here rest = rest

-- ---- basic intervals as elements of runs

abbrev element : Basic → Element
element b = record { front = b.front; span = record { start = b.part.start; end = b.part.end } }

fronts_are : (basics : List Basic) → segment_starts basics ≡ fronts (map element basics)
fronts_are basics = ap marked (sym (map_twice element (λ e. e.front) basics))

starts_push : (fed : List Basic) (b : Basic) → segment_starts (fed ++ b ∷ [])
    ≡ fronts (map element fed ++ element b ∷ [])
starts_push fed b = fronts_are (fed ++ b ∷ []) ∙ ap fronts (map-append element fed (b ∷ []))

mark_kept : (fed : List Basic) (b : Basic) (x : ℕ) → x < length fed
    → begins_run (segment_starts (fed ++ b ∷ [])) 15 x ≡ begins_run (segment_starts fed) 15 x
mark_kept fed b x inside =
    ap (λ s. begins_run s 15 x) (starts_push fed b)
    ∙ begins_kept (map element fed) (element b) 15 x (omega (arith, inside, length-map fed element))
    ∙ ap (λ s. begins_run s 15 x) (sym (fronts_are fed))

first_front : (fed : List Basic) (b : Basic) → BeginsAtFront (fed ++ b ∷ [])
    → ElementsBeginAtFront (map element fed ++ element b ∷ [])
first_front [] b h = h
first_front (f ∷ fs) b h = h

mark_new : (fed : List Basic) (b : Basic) → BeginsAtFront (fed ++ b ∷ [])
    → begins_run (segment_starts (fed ++ b ∷ [])) 15 (length fed)
    ≡ (b.front || is_nil (pending_runs 15 (map element fed)))
mark_new fed b h =
    ap (λ s. begins_run s 15 (length fed)) (starts_push fed b)
    ∙ ap (λ n. begins_run (fronts (map element fed ++ element b ∷ [])) 15 n) (sym (length-map fed element))
    ∙ begins_with (map element fed) (element b) 15 (omega arith) (first_front fed b h)

-- ---- whether a run that began lacks basic intervals

any_filter : (t : ℕ → Bool) (f : ℕ → PendingRun) (xs : List ℕ) → not (is_nil (map f (filter t xs)))
    ≡ list_any t xs
any_filter t f [] = refl
any_filter t f (x ∷ xs) = at (t x) (any_filter t f xs)
  where
    at : (b : Bool) → not (is_nil (map f (filter t xs))) ≡ list_any t xs
        → not (is_nil (map f (cond b (x ∷ filter t xs) (filter t xs)))) ≡ (b || list_any t xs)
    at true rest = refl
    at false rest = rest

any_mapped : {X : Type 0} (t : X → Bool) (f : ℕ → X) (xs : List ℕ) → list_any t (map f xs)
    ≡ list_any (λ x. t (f x)) xs
any_mapped t f [] = refl
any_mapped t f (x ∷ xs) = ap (λ b. t (f x) || b) (any_mapped t f xs)

none_begin : (channels k : ℕ) → list_any (λ (r : RecentView). r.begins) (replicate k (none_yet channels))
    ≡ false
none_begin channels zero = refl
none_begin channels (suc k) = none_begin channels k

any_kept : (channels : ℕ) (fed : List Basic) → list_any (λ (r : RecentView). r.begins) (latest channels fed)
    ≡ not (is_nil (pending_runs 15 (map element fed)))
unfolding latest
any_kept channels fed =
    let n = length fed in
    let es = map element fed in
    let test : ℕ → Bool = begins_run (segment_starts fed) 15 in
    let same : length es ≡ n = length-map fed element in
    let first : n + 1 - 15 ≡ n - 14 = omega arith in
    let begins : RecentView → Bool = λ r. r.begins in
    list_any-append begins (replicate (14 - n) (none_yet channels))
    (map (recent_at channels fed) (numbers_from (n - 14) (n - (n - 14))))
    ∙ ap (λ b. b || list_any begins (map (recent_at channels fed) (numbers_from (n - 14) (n - (n - 14)))))
    (none_begin channels (14 - n))
    ∙ any_mapped begins (recent_at channels fed) (numbers_from (n - 14) (n - (n - 14)))
    ∙ sym (ap (λ rs. not (is_nil rs)) (pending_runs_latest 15 es (omega arith))
    ∙ any_filter (begins_run (fronts es) 15) (pending_from es)
    (numbers_from (length es + 1 - 15) (length es - (length es + 1 - 15)))
    ∙ ap (λ k. list_any (begins_run (fronts es) 15) (numbers_from (k + 1 - 15) (k - (k + 1 - 15)))) same
    ∙ ap (λ k. list_any (begins_run (fronts es) 15) (numbers_from k (n - k))) first
    ∙ ap (λ s. list_any (begins_run s 15) (numbers_from (n - 14) (n - (n - 14)))) (sym (fronts_are fed)))

not_not : (b : Bool) → not (not b) ≡ b
not_not true = refl
not_not false = refl

begins_is : (channels : ℕ) (fed : List Basic) (b : Basic) → BeginsAtFront (fed ++ b ∷ [])
    → begins_next (latest channels fed) b.front ≡ begins_run (segment_starts (fed ++ b ∷ [])) 15 (length fed)
begins_is channels fed b h =
    ap (λ x. b.front || not x) (any_kept channels fed)
    ∙ ap (λ x. b.front || x) (not_not (is_nil (pending_runs 15 (map element fed))))
    ∙ sym (mark_new fed b h)

-- ---- the latest after one more

get_kept : {X : Type 0} (xs : List X) (y : X) (i : ℕ) → i < length xs → slice_get (xs ++ y ∷ []) i
    ≡ slice_get xs i
get_kept [] y i inside = absurd (omega (arith, inside))
get_kept (x ∷ xs) y zero inside = refl
get_kept (x ∷ xs) y (suc i) inside = get_kept xs y i (omega (arith, inside))

get_last : {X : Type 0} (xs : List X) (y : X) → slice_get (xs ++ y ∷ []) (length xs) ≡ Some y
get_last [] y = refl
get_last (x ∷ xs) y = get_last xs y

recent_kept : (channels : ℕ) (fed : List Basic) (b : Basic) (i : ℕ) → i < length fed
    → recent_at channels fed i ≡ recent_at channels (fed ++ b ∷ []) i
recent_kept channels fed b i inside =
    ap (λ m. record { begins = m; part = part_at channels fed i }) (sym (mark_kept fed b i inside))
    ∙ ap (λ o. record {
      begins = begins_run (segment_starts (fed ++ b ∷ [])) 15 i;
      part = option_map_or (λ (b : Basic). b.part) o (no_part channels);
    }) (sym (get_kept fed b i inside))

recent_new : (channels : ℕ) (fed : List Basic) (b : Basic) → BeginsAtFront (fed ++ b ∷ [])
    → record { begins = begins_next (latest channels fed) b.front; part = b.part }
    ≡ recent_at channels (fed ++ b ∷ []) (length fed)
recent_new channels fed b h =
    ap (λ m. record { begins = m; part = b.part }) (begins_is channels fed b h)
    ∙ ap (λ o. record {
      begins = begins_run (segment_starts (fed ++ b ∷ [])) 15 (length fed);
      part = option_map_or (λ (b : Basic). b.part) o (no_part channels);
    }) (sym (get_last fed b))

-- so many none, and those from an index on
abbrev kept_from : ℕ → List Basic → ℕ → ℕ → ℕ → List RecentView
kept_from channels basics none low count =
    replicate none (none_yet channels) ++ map (recent_at channels basics) (numbers_from low count)

latest_early : (channels : ℕ) (basics : List Basic) (n : ℕ) → length basics ≡ n → n ≤ 14
    → latest channels basics ≡ kept_from channels basics (14 - n) 0 n
unfolding latest
latest_early channels basics n is early =
    let low : n - 14 ≡ 0 = omega (arith, early) in
    let all : n - 0 ≡ n = omega arith in
    ap (λ n. kept_from channels basics (14 - n) (n - 14) (n - (n - 14))) is
    ∙ ap (λ k. kept_from channels basics (14 - n) k (n - k)) low
    ∙ ap (λ k. kept_from channels basics (14 - n) 0 k) all

latest_late : (channels : ℕ) (basics : List Basic) (low : ℕ) → length basics ≡ low + 14
    → latest channels basics ≡ map (recent_at channels basics) (numbers_from low 14)
unfolding latest
latest_late channels basics low is =
    let none : 14 - (low + 14) ≡ 0 = omega arith in
    let first : low + 14 - 14 ≡ low = omega arith in
    let many : low + 14 - low ≡ 14 = omega arith in
    ap (λ n. kept_from channels basics (14 - n) (n - 14) (n - (n - 14))) is
    ∙ ap (λ k. kept_from channels basics k (low + 14 - 14) (low + 14 - (low + 14 - 14))) none
    ∙ ap (λ k. kept_from channels basics 0 k (low + 14 - k)) first
    ∙ ap (λ k. kept_from channels basics 0 low k) many

push_kept : (channels : ℕ) (fed : List Basic) (b : Basic) (low count : ℕ) → low + count ≡ length fed
    → BeginsAtFront (fed ++ b ∷ [])
    → map (recent_at channels fed) (numbers_from low count)
    ++ record { begins = begins_next (latest channels fed) b.front; part = b.part } ∷ []
    ≡ map (recent_at channels (fed ++ b ∷ [])) (numbers_from low (suc count))
push_kept channels fed b low count end h =
    ap (λ xs. xs ++ record { begins = begins_next (latest channels fed) b.front; part = b.part } ∷ [])
    (agree (recent_at channels fed) (recent_at channels (fed ++ b ∷ [])) low count
    (λ k from below. recent_kept channels fed b k (omega (arith, below, end))))
    ∙ ap (λ x. map (recent_at channels (fed ++ b ∷ [])) (numbers_from low count) ++ x ∷ [])
    (recent_new channels fed b h ∙ ap (recent_at channels (fed ++ b ∷ [])) (sym end))
    ∙ sym (map-append (recent_at channels (fed ++ b ∷ [])) (numbers_from low count) ((low + count) ∷ []))
    ∙ ap (map (recent_at channels (fed ++ b ∷ []))) (sym (numbers_push low count))

latest_push : (channels : ℕ) (fed : List Basic) (b : Basic) → BeginsAtFront (fed ++ b ∷ [])
    → with_next (latest channels fed)
    (record { begins = begins_next (latest channels fed) b.front; part = b.part })
    ≡ latest channels (fed ++ b ∷ [])
unfolding numbers_from
latest_push channels fed b h =
    let n = length fed in
    let new : RecentView = record { begins = begins_next (latest channels fed) b.front; part = b.part } in
    let longer : length (fed ++ b ∷ []) ≡ n + 1 = length_push fed b in
    elim (cases_lt n 14) [
      | inl early ↦
          let more : 14 - n ≡ suc (13 - n) = omega (arith, early) in
          let left : 13 - n ≡ 14 - suc n = omega (arith, early) in
          let next : length (fed ++ b ∷ []) ≡ suc n = omega (arith, longer) in
          ap (λ xs. drop 1 xs ++ new ∷ []) (latest_early channels fed n refl (omega (arith, early)))
          ∙ ap (λ k. drop 1 (kept_from channels fed k 0 n) ++ new ∷ []) more
          ∙ append_assoc (replicate (13 - n) (none_yet channels))
          (map (recent_at channels fed) (numbers_from 0 n)) (new ∷ [])
          ∙ ap (λ xs. replicate (13 - n) (none_yet channels) ++ xs)
          (push_kept channels fed b 0 n (omega arith) h)
          ∙ ap (λ k. kept_from channels (fed ++ b ∷ []) k 0 (suc n)) left
          ∙ sym (latest_early channels (fed ++ b ∷ []) (suc n) next (omega (arith, early)))
      | inr late ↦
          let low = n - 14 in
          let end : n ≡ low + 14 = omega (arith, late) in
          let next : length (fed ++ b ∷ []) ≡ low + 1 + 14 = omega (arith, longer, late) in
          ap (λ xs. drop 1 xs ++ new ∷ []) (latest_late channels fed low end)
          ∙ push_kept channels fed b (low + 1) 13 (omega (arith, late)) h
          ∙ sym (latest_late channels (fed ++ b ∷ []) (low + 1) next)
    ]

-- ---- the interval that is completed

parts_between : (channels : ℕ) (fed : List Basic) (low count : ℕ) → low + count ≤ length fed
    → map (part_at channels fed) (numbers_from low count) ≡ parts_of (take count (drop low fed))
unfolding numbers_from
parts_between channels fed low zero inside = refl
parts_between channels [] low (suc count) inside = absurd (omega (arith, inside))
parts_between channels (x ∷ xs) zero (suc count) inside =
    ap (λ ps. x.part ∷ ps)
    (shift (part_at channels (x ∷ xs)) 0 count ∙ moved
    ∙ parts_between channels xs 0 count (omega (arith, inside)))
  where
    moved : map (λ k. part_at channels (x ∷ xs) (k + 1)) (numbers_from 0 count)
        ≡ map (part_at channels xs) (numbers_from 0 count)
    moved = agree (λ k. part_at channels (x ∷ xs) (k + 1)) (part_at channels xs) 0 count
        (λ k from below. let e : k + 1 ≡ suc k = omega arith in ap (part_at channels (x ∷ xs)) e)
parts_between channels (x ∷ xs) (suc low) (suc count) inside =
    let e : suc low ≡ low + 1 = omega arith in
    ap (λ l. map (part_at channels (x ∷ xs)) (numbers_from l (suc count))) e
    ∙ shift (part_at channels (x ∷ xs)) low (suc count)
    ∙ agree (λ k. part_at channels (x ∷ xs) (k + 1)) (part_at channels xs) low (suc count)
    (λ k from below. let e : k + 1 ≡ suc k = omega arith in ap (part_at channels (x ∷ xs)) e)
    ∙ parts_between channels xs low (suc count) (omega (arith, inside))

range_kept : {X : Type 0} (xs ys : List X) (a b : ℕ) → a ≤ length xs → b ≤ length xs
    → slice_range (xs ++ ys) a b ≡ slice_range xs a b
range_kept xs ys a b begun at =
    ap (take (b - a)) (drop-append-le a xs ys begun)
    ∙ take-append-le (b - a) (drop a xs) ys (omega (arith, length-drop a xs, begun, at))

-- the fourteen latest and one more are the fifteen of a run
fifteen : (channels : ℕ) (fed : List Basic) (b : Basic) (low : ℕ) → length fed ≡ low + 14
    → map (λ (r : RecentView). r.part) (latest channels fed) ++ b.part ∷ []
    ≡ parts_of (slice_range (fed ++ b ∷ []) low (low + 15))
fifteen channels fed b low is =
    let long : length (drop low fed) ≡ 14 = omega (arith, length-drop low fed, is) in
    let longer : length (drop low fed ++ b ∷ []) ≡ 15 = omega (arith, length_push (drop low fed) b, long) in
    let many : low + 15 - low ≡ 15 = omega arith in
    ap (λ rs. map (λ (r : RecentView). r.part) rs ++ b.part ∷ []) (latest_late channels fed low is)
    ∙ ap (λ ps. ps ++ b.part ∷ [])
    (map_twice (recent_at channels fed) (λ r. r.part) (numbers_from low 14)
    ∙ parts_between channels fed low 14 (omega (arith, is))
    ∙ ap parts_of (take_all 14 (drop low fed) (omega (arith, long))))
    ∙ sym (map-append (λ b. b.part) (drop low fed) (b ∷ []))
    ∙ ap parts_of (sym (take_all 15 (drop low fed ++ b ∷ []) (omega (arith, longer)))
    ∙ ap (take 15) (sym (drop-append-le low fed (b ∷ []) (omega (arith, is))))
    ∙ ap (λ k. take k (drop low (fed ++ b ∷ []))) (sym many))

completed_at : (channels : ℕ) (xs : List RecentView) (r : RecentView) (rest : List RecentView) (part : Part)
    → xs ≡ r ∷ rest → completed_by channels xs part
    ≡ cond r.begins (Some (group_of None channels (map (λ (r : RecentView). r.part) xs ++ part ∷ []))) None
completed_at channels xs r rest part is =
    subst (λ ys. completed_by channels ys part
    ≡ cond r.begins (Some (group_of None channels (map (λ (r : RecentView). r.part) ys ++ part ∷ []))) None)
    (sym is) refl

as_list : {X : Type 0} (b : Bool) (x : X) → cond b (x ∷ []) [] ≡ option_to_list (cond b (Some x) None)
as_list true x = refl
as_list false x = refl

short_push : (channels : ℕ) (fed : List Basic) (b : Basic) → short_groups channels (fed ++ b ∷ [])
    ≡ short_groups channels fed ++ option_to_list (completed_by channels (latest channels fed) b.part)
unfolding short_groups runs numbers_from
short_push channels fed b =
    let n = length fed in
    let after = fed ++ b ∷ [] in
    let longer : length after ≡ n + 1 = length_push fed b in
    let test : ℕ → Bool = begins_run (segment_starts after) 15 in
    let old : ℕ → Bool = begins_run (segment_starts fed) 15 in
    let over : List Basic → Span → Group =
    λ bs run. group_of None channels (parts_of (slice_range bs run.start run.end)) in
    elim (cases_lt n 14) [
      | inl early ↦
          let none : length after + 1 - 15 ≡ 0 = omega (arith, longer, early) in
          let before : n + 1 - 15 ≡ 0 = omega (arith, early) in
          let more : 14 - n ≡ suc (13 - n) = omega (arith, early) in
          let kept = latest_early channels fed n refl (omega (arith, early))
          ∙ ap (λ k. kept_from channels fed k 0 n) more in
          ap (λ k. map (over after) (map (run_from 15) (filter test (numbers_from 0 k)))) none
          ∙ sym (ap (λ k. map (over fed) (map (run_from 15) (filter old (numbers_from 0 k))) ++ []) before)
          ∙ ap (λ o. map (over fed) (map (run_from 15) (filter old (numbers_from 0 (n + 1 - 15))))
          ++ option_to_list o)
          (sym (completed_at channels (latest channels fed) (none_yet channels)
          (kept_from channels fed (13 - n) 0 n) b.part kept))
      | inr late ↦
          let low = n - 14 in
          let end : n ≡ low + 14 = omega (arith, late) in
          let all : length after + 1 - 15 ≡ suc low = omega (arith, longer, late) in
          let before : n + 1 - 15 ≡ low = omega (arith, late) in
          let here : 0 + low ≡ low = omega arith in
          let span_of : ℕ → Group = λ x. over after (run_from 15 x) in
          let old_span : ℕ → Group = λ x. over fed (run_from 15 x) in
          map_twice (run_from 15) (over after) (filter test (numbers_below (length after + 1 - 15)))
          ∙ ap (λ k. map span_of (filter test (numbers_from 0 k))) all
          ∙ ap (map span_of) (numbers_filter_push test 0 low)
          ∙ map-append span_of (filter test (numbers_from 0 low)) (cond (test (0 + low)) ((0 + low) ∷ []) [])
          ∙ ap (λ x. map span_of (filter test (numbers_from 0 low))
          ++ map span_of (cond (test x) (x ∷ []) [])) here
          ∙ ap (λ gs. map span_of (filter test (numbers_from 0 low)) ++ gs) (map_cond span_of (test low) low)
          ∙ ap (λ xs. map span_of xs ++ cond (test low) (span_of low ∷ []) [])
          (filter_agree test old 0 low (λ x from below. mark_kept fed b x (omega (arith, below, late))))
          ∙ ap (λ gs. gs ++ cond (test low) (span_of low ∷ []) [])
          (map_agree span_of old_span old 0 low (λ x from below.
          ap (λ bs. group_of None channels (parts_of bs))
          (range_kept fed (b ∷ []) x (x + 15) (omega (arith, below, late)) (omega (arith, below, late))))
          ∙ sym (map_twice (run_from 15) (over fed) (filter old (numbers_from 0 low)))
          ∙ ap (λ k. map (over fed) (map (run_from 15) (filter old (numbers_from 0 k)))) (sym before))
          ∙ ap (λ gs. map (over fed) (map (run_from 15) (filter old (numbers_from 0 (n + 1 - 15)))) ++ gs)
          (ap (λ m. cond m (span_of low ∷ []) []) (mark_kept fed b low (omega (arith, late)))
          ∙ as_list (old low) (span_of low)
          ∙ ap (λ ps. option_to_list (cond (old low) (Some (group_of None channels ps)) None))
          (sym (fifteen channels fed b low end))
          ∙ ap option_to_list (sym (completed_at channels (latest channels fed) (recent_at channels fed low)
          (map (recent_at channels fed) (numbers_from (low + 1) 13)) b.part
          (latest_late channels fed low end))))
    ]

-- ---- what contracts say

pub completes_of : (s : ShortView) (b : Basic) (answer : Option Group)
    → answer ≡ completed_by s.channels s.recent b.part → Completes s b answer
completes_of s b answer is fed seen first =
    short_push s.channels fed b
    ∙ ap (λ o. short_groups s.channels fed ++ option_to_list o)
    (ap (λ rs. completed_by s.channels rs b.part) (sym seen) ∙ sym is)

pub sees_of : (s t : ShortView) (b : Basic) → t.channels ≡ s.channels
    → t.recent ≡ with_next s.recent (record { begins = begins_next s.recent b.front; part = b.part })
    → SeesMore s t b
sees_of s t b same is fed seen first =
    is ∙ ap (λ rs. with_next rs (record { begins = begins_next rs b.front; part = b.part })) seen
    ∙ latest_push s.channels fed b first ∙ ap (λ c. latest c (fed ++ b ∷ [])) (sym same)

-- of no basic interval
pub latest_none : (channels : ℕ) → replicate 14 (none_yet channels) ≡ latest channels []
unfolding latest numbers_from
latest_none channels = refl

-- ---- the parts that are kept

any_viewed : (channels : ℕ) (recent : List Recent) → list_any (λ (r : Recent). r.begins) recent
    ≡ list_any (λ (r : RecentView). r.begins) (map (recent_view channels) recent)
any_viewed channels [] = refl
any_viewed channels (r ∷ rs) = ap (λ b. r.begins || b) (any_viewed channels rs)

rest_viewed : (channels : ℕ) (recent : List Recent) → map (recent_view channels) (drop 1 recent)
    ≡ drop 1 (map (recent_view channels) recent)
rest_viewed channels [] = refl
rest_viewed channels (r ∷ rs) = refl

-- the latest after one more, as contracts see them
pub pushed : (channels : ℕ) (recent after : List Recent) (next : Recent) (front : Bool) (part : Part)
    → after ≡ drop 1 recent ++ next ∷ []
    → next.begins ≡ (front || not (list_any (λ (r : Recent). r.begins) recent))
    → part_of next.span (take channels next.values) next.flagged ≡ part
    → map (recent_view channels) after ≡ with_next (map (recent_view channels) recent)
    (record { begins = begins_next (map (recent_view channels) recent) front; part = part })
pushed channels recent after next front part is begins same =
    ap (map (recent_view channels)) is
    ∙ map-append (recent_view channels) (drop 1 recent) (next ∷ [])
    ∙ ap (λ rs. rs ++ recent_view channels next ∷ []) (rest_viewed channels recent)
    ∙ ap (λ m. drop 1 (map (recent_view channels) recent)
    ++ record { begins = m; part = part_of next.span (take channels next.values) next.flagged } ∷ [])
    (begins ∙ ap (λ b. front || not b) (any_viewed channels recent))
    ∙ ap (λ p. with_next (map (recent_view channels) recent)
    (record { begins = begins_next (map (recent_view channels) recent) front; part = p })) same

-- the interval that is completed, as contracts see it
pub completed_first : (channels : ℕ) (recent : List Recent) (part : Part) (g : Group) (d : Recent)
    → 0 < length recent → (get_or recent 0 d).begins ≡ true
    → g ≡ group_of None channels (map (λ (r : Recent). (recent_view channels r).part) recent ++ part ∷ [])
    → Some g ≡ completed_by channels (map (recent_view channels) recent) part
completed_first channels [] part g d some begins is = absurd (omega (arith, some))
completed_first channels (r ∷ rs) part g d some begins is =
    ap Some (is ∙ ap (λ ps. group_of None channels (ps ++ part ∷ []))
    (sym (map_twice (recent_view channels) (λ (r : RecentView). r.part) (r ∷ rs))))
    ∙ ap (λ b. cond b (Some (group_of None channels
    (map (λ (r : RecentView). r.part) (map (recent_view channels) (r ∷ rs)) ++ part ∷ []))) None) (sym begins)
