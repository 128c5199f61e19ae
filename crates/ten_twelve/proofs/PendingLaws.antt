-- One more element: which runs lack elements then, and which run is completed.
use Rattle.std.proofs.Common.{◌≡◌, ℕ, zero, suc, ◌+◌, ◌-◌, ◌%◌, ◌<◌, ◌≤◌, Bool, true, false, cond, ◌==◌, ◌&&◌, nat_lt, List, [], ◌∷◌, ◌++◌, length, map, filter, Some, None, option_map, option_to_list, slice_get, refl, sym, ◌∙◌, ap, subst, inl, inr, arith}
use Rattle.std.specs.Option.{option_map_or}
use Rattle.std.specs.List.{enumerate_from}
use Rattle.std.proofs.lemmas.Bool.{cases_lt}
use Rattle.std.proofs.lemmas.Bool.Decides.{nat_tests}
use Rattle.std.proofs.lemmas.List.{map-append, append-nil, length_push}
use Rattle.std.proofs.lemmas.List.Elements.{filter-append}
use Rattle.ten_twelve.specs.declared.span.Span.{Span}
use Rattle.ten_twelve.specs.Run.{Element, PendingRun, begins_run, run_from, runs, marked, fronts, start_at, end_at, spanned, chopped, pending_from, lacks_elements, pending_runs}
use Rattle.ten_twelve.specs.Unfinished.{grown, new_run, oldest_whole, others}
use Rattle.ten_twelve.proofs.NumberLemmas.{filter_agree, filter_nothing, filter_push, numbers_filter_push, numbers_split}
use Rattle.ten_twelve.proofs.ChopLemmas.{begins_before, begins_from}
use Rattle.pq_words.specs.Steps.{numbers_from, numbers_below}

-- ---- fronts of the longer list

enumerate_push : (marks : List Bool) (low : ℕ) (b : Bool) → enumerate_from low (marks ++ b ∷ [])
    ≡ enumerate_from low marks ++ (low + length marks, b) ∷ []
enumerate_push [] low b = let here : low ≡ low + 0 = omega arith in ap (λ n. (n, b) ∷ []) here
enumerate_push (m ∷ ms) low b =
    let on : low + 1 + length ms ≡ low + suc (length ms) = omega arith in
    ap (λ ps. (low, m) ∷ ps) (enumerate_push ms (low + 1) b
    ∙ ap (λ n. enumerate_from (low + 1) ms ++ (n, b) ∷ []) on)

mark_at : (n : ℕ) (b : Bool) → map (λ (p : ℕ × Bool). p.0) (cond b ((n, b) ∷ []) []) ≡ cond b (n ∷ []) []
mark_at n true = refl
mark_at n false = refl

marked_push : (marks : List Bool) (b : Bool) → marked (marks ++ b ∷ []) ≡ marked marks
    ++ cond b (length marks ∷ []) []
unfolding marked
marked_push marks b =
    let here : 0 + length marks ≡ length marks = omega arith in
    let first : ℕ × Bool → ℕ = λ p. p.0 in
    let is : ℕ × Bool → Bool = λ p. p.1 in
    ap (λ ps. map first (filter is ps)) (enumerate_push marks 0 b
    ∙ ap (λ n. enumerate_from 0 marks ++ (n, b) ∷ []) here)
    ∙ ap (map first) (filter_push is (enumerate_from 0 marks) (length marks, b))
    ∙ map-append first (filter is (enumerate_from 0 marks)) (cond b ((length marks, b) ∷ []) [])
    ∙ ap (λ xs. map first (filter is (enumerate_from 0 marks)) ++ xs) (mark_at (length marks) b)

length-fronts : (fed : List Element) → length (map (λ e. e.front) fed) ≡ length fed
length-fronts [] = refl
length-fronts (e ∷ es) = ap suc (length-fronts es)

pub fronts_push : (fed : List Element) (e : Element) → fronts (fed ++ e ∷ []) ≡ fronts fed
    ++ cond e.front (length fed ∷ []) []
fronts_push fed e =
    ap marked (map-append (λ e. e.front) fed (e ∷ []))
    ∙ marked_push (map (λ e. e.front) fed) e.front
    ∙ ap (λ n. fronts fed ++ cond e.front (n ∷ []) []) (length-fronts fed)

-- earlier runs begin where they did
pub begins_kept : (fed : List Element) (e : Element) (m x : ℕ) → x < length fed →
    begins_run (fronts (fed ++ e ∷ [])) m x ≡ begins_run (fronts fed) m x
begins_kept fed e m x inside = ap (λ s. begins_run s m x) (fronts_push fed e) ∙ at e.front
  where
    at : (b : Bool) → begins_run (fronts fed ++ cond b (length fed ∷ []) []) m x ≡ begins_run (fronts fed) m x
    at true = sym (begins_before (fronts fed) (length fed) m x inside)
    at false = ap (λ s. begins_run s m x) (append-nil (fronts fed))

-- a run begins at a front
pub begins_at_front : (fed : List Element) (e : Element) (m : ℕ) → 1 ≤ m → e.front ≡ true →
    begins_run (fronts (fed ++ e ∷ [])) m (length fed) ≡ true
begins_at_front fed e m some is =
    let here : length fed - length fed ≡ 0 = omega arith in
    let whole : 0 % m ≡ 0 = omega (arith, some) in
    ap (λ s. begins_run s m (length fed)) (fronts_push fed e
    ∙ ap (λ b. fronts fed ++ cond b (length fed ∷ []) []) is)
    ∙ begins_from (fronts fed) (length fed) m (length fed) (omega arith)
    ∙ ap (λ k. k % m == 0) here ∙ ap (λ k. k == 0) whole

pub begins_at_other : (fed : List Element) (e : Element) (m : ℕ) → e.front ≡ false →
    begins_run (fronts (fed ++ e ∷ [])) m (length fed) ≡ begins_run (fronts fed) m (length fed)
begins_at_other fed e m is =
    ap (λ s. begins_run s m (length fed)) (fronts_push fed e
    ∙ ap (λ b. fronts fed ++ cond b (length fed ∷ []) []) is ∙ append-nil (fronts fed))

-- ---- elements of the longer list

get_kept : (fed : List Element) (e : Element) (i : ℕ) → i < length fed → slice_get (fed ++ e ∷ []) i
    ≡ slice_get fed i
get_kept [] e i inside = absurd (omega (arith, inside))
get_kept (f ∷ fs) e zero inside = refl
get_kept (f ∷ fs) e (suc i) inside = get_kept fs e i (omega (arith, inside))

get_last : (fed : List Element) (e : Element) → slice_get (fed ++ e ∷ []) (length fed) ≡ Some e
get_last [] e = refl
get_last (f ∷ fs) e = get_last fs e

starts_kept : (fed : List Element) (e : Element) (i : ℕ) → i < length fed → start_at (fed ++ e ∷ []) i
    ≡ start_at fed i
starts_kept fed e i inside = ap (λ o. option_map_or (λ (e : Element). e.span.start) o 0)
    (get_kept fed e i inside)

ends_kept : (fed : List Element) (e : Element) (i : ℕ) → i < length fed → end_at (fed ++ e ∷ []) i
    ≡ end_at fed i
ends_kept fed e i inside = ap (λ o. option_map_or (λ (e : Element). e.span.end) o 0) (get_kept fed e i inside)

-- ---- functions over numbers that pass

map_agree : {Y : Type 0} (f g : ℕ → Y) (p : ℕ → Bool) (low n : ℕ) →
    ((x : ℕ) → low ≤ x → x < low + n → f x ≡ g x) → map f (filter p (numbers_from low n))
    ≡ map g (filter p (numbers_from low n))
unfolding numbers_from
map_agree f g p low zero same = refl
map_agree f g p low (suc n) same = at (p low) (same low (omega arith) (omega arith))
    (map_agree f g p (low + 1) n (λ x from below. same x (omega (arith, from)) (omega (arith, below))))
  where
    at : (b : Bool) → f low ≡ g low → map f (filter p (numbers_from (low + 1) n))
        ≡ map g (filter p (numbers_from (low + 1) n))
        → map f (cond b (low ∷ filter p (numbers_from (low + 1) n)) (filter p (numbers_from (low + 1) n)))
        ≡ map g (cond b (low ∷ filter p (numbers_from (low + 1) n)) (filter p (numbers_from (low + 1) n)))
    at true here rest = ap (λ y. y ∷ map f (filter p (numbers_from (low + 1) n))) here
        ∙ ap (λ ys. g low ∷ ys) rest
    at false here rest = rest

map_twice : {X Y Z : Type 0} (f : X → Y) (g : Y → Z) (xs : List X) → map g (map f xs) ≡ map (λ x. g (f x)) xs
map_twice f g [] = refl
map_twice f g (x ∷ xs) = ap (λ zs. g (f x) ∷ zs) (map_twice f g xs)

map_cond : {Y : Type 0} (f : ℕ → Y) (b : Bool) (x : ℕ) → map f (cond b (x ∷ []) []) ≡ cond b (f x ∷ []) []
map_cond f true x = refl
map_cond f false x = refl

-- of runs that have fewer elements, none is whole
none_whole : (f : ℕ → PendingRun) (p : ℕ → Bool) (m low n : ℕ) →
    ((x : ℕ) → low ≤ x → x < low + n → (f x).count < m)
    → (oldest_whole m (map f (filter p (numbers_from low n))) ≡ None) ×
    (others m (map f (filter p (numbers_from low n))) ≡ map f (filter p (numbers_from low n)))
unfolding numbers_from
none_whole f p m low zero few = (refl, refl)
none_whole f p m low (suc n) few = at (p low) (lacking (few low (omega arith) (omega arith)))
    (none_whole f p m (low + 1) n (λ x from below. few x (omega (arith, from)) (omega (arith, below))))
  where
    lacking : (f low).count < m → ((f low).count == m) ≡ false
    lacking less = grind (arith, nat_tests, less)

    at : (b : Bool) → ((f low).count == m) ≡ false →
        (oldest_whole m (map f (filter p (numbers_from (low + 1) n))) ≡ None) ×
        (others m (map f (filter p (numbers_from (low + 1) n))) ≡ map f (filter p (numbers_from (low + 1) n)))
        → (oldest_whole m (map f (cond b (low ∷ filter p (numbers_from (low + 1) n))
        (filter p (numbers_from (low + 1) n)))) ≡ None)
        × (others m (map f (cond b (low ∷ filter p (numbers_from (low + 1) n))
        (filter p (numbers_from (low + 1) n)))) ≡ map f
        (cond b (low ∷ filter p (numbers_from (low + 1) n)) (filter p (numbers_from (low + 1) n))))
    at true less later = (
      ap (λ c. cond c (Some (f low)) None) less,
      ap (λ c. cond c (map f (filter p (numbers_from (low + 1) n)))
          (f low ∷ map f (filter p (numbers_from (low + 1) n)))) less,
    )
    at false less later = later

-- ---- the runs that lack elements begin at the last indices

abbrev pub latest_runs : ℕ → List Element → List PendingRun
latest_runs m elements =
    let first = length elements + 1 - m in
    map (pending_from elements) (filter (begins_run (fronts elements) m)
    (numbers_from first (length elements - first)))

never : (b : Bool) → (b && false) ≡ false
never true = refl
never false = refl

always : (b : Bool) → (b && true) ≡ b
always true = refl
always false = refl

pub pending_runs_latest : (m : ℕ) (elements : List Element) → 1 ≤ m → pending_runs m elements
    ≡ latest_runs m elements
unfolding pending_runs
pending_runs_latest m elements some =
    let n = length elements in
    let first = n + 1 - m in
    let test : ℕ → Bool = lacks_elements m elements in
    let begins : ℕ → Bool = begins_run (fronts elements) m in
    let whole : first + (n - first) ≡ n = omega (arith, some) in
    let here : 0 + first ≡ first = omega arith in
    let early : filter test (numbers_from 0 first) ≡ [] =
    filter_nothing test 0 first (λ x from below.
    let no : nat_lt n (x + m) ≡ false = let enough : x + m ≤ n = omega (arith, below) in
    grind (arith, nat_tests, enough) in
    ap (λ b. begins x && b) no ∙ never (begins x)) in
    let late : filter test (numbers_from first (n - first)) ≡ filter begins (numbers_from first (n - first)) =
    filter_agree test begins first (n - first) (λ x from below.
    let yes : nat_lt n (x + m) ≡ true = let past : n < x + m = omega (arith, from, some) in
    grind (arith, nat_tests, past) in
    ap (λ b. begins x && b) yes ∙ always (begins x)) in
    ap (λ k. map (pending_from elements) (filter test (numbers_from 0 k))) (sym whole)
    ∙ ap (λ xs. map (pending_from elements) (filter test xs))
    (numbers_split 0 first (n - first) ∙ ap (λ l. numbers_from 0 first ++ numbers_from l (n - first)) here)
    ∙ ap (map (pending_from elements))
    (filter-append test (numbers_from 0 first) (numbers_from first (n - first))
    ∙ ap (λ xs. xs ++ filter test (numbers_from first (n - first))) early ∙ late)

-- ---- one more element

-- what a chopper's runs are once they have counted an element, and before a whole one is taken out
abbrev pub counted : ℕ → List Element → Element → List PendingRun
counted m fed e = map grown (pending_runs m fed) ++ cond (begins_run (fronts (fed ++ e ∷ [])) m (length fed))
    (new_run e.span.start ∷ []) []

-- the span of a run that this element completes
abbrev pub completed : Element → PendingRun → Span
completed e run = record { start = run.start; end = e.span.end }

module _ (fed : List Element) (e : Element) (m : ℕ) (some : 1 ≤ m) where
  after : List Element
  after = fed ++ e ∷ []

  n : ℕ
  n = length fed

  -- the least index at which a run may have begun that lacked elements, or lacks none but this one
  first : ℕ
  first = n + 1 - m

  longer : length after ≡ n + 1
  unfolding after n
  longer = length_push fed e

  open_runs : List PendingRun
  open_runs = map (pending_from after) (filter (begins_run (fronts after) m)
      (numbers_from first (n + 1 - first)))

  pending_kept : (x : ℕ) → x < n → pending_from after x ≡ grown (pending_from fed x)
  unfolding after n
  pending_kept x inside =
      let count : length after - x ≡ length fed - x + 1 = omega (arith, longer, inside) in
      ap (λ s. record { start = s; count = length after - x }) (starts_kept fed e x inside)
      ∙ ap (λ c. record { start = start_at fed x; count = c }) count

  pending_new : pending_from after n ≡ record { start = e.span.start; count = 1 }
  unfolding after n
  pending_new =
      let count : length after - length fed ≡ 1 = omega (arith, longer) in
      ap (λ o. record {
        start = option_map_or (λ (e : Element). e.span.start) o 0;
        count =
            length after - length fed;
      }) (get_last fed e)
      ∙ ap (λ c. record { start = e.span.start; count = c }) count

  -- they are the runs that lacked elements, and a new one
  open_are : open_runs ≡ counted m fed e
  unfolding open_runs first after n
  open_are =
      let test : ℕ → Bool = begins_run (fronts after) m in
      let old : ℕ → Bool = begins_run (fronts fed) m in
      let less : first ≤ n = omega (arith, some) in
      let more : n + 1 - first ≡ suc (n - first) = omega (arith, less) in
      let last : first + (n - first) ≡ n = omega (arith, less) in
      ap (λ k. map (pending_from after) (filter test (numbers_from first k))) more
      ∙ ap (map (pending_from after)) (numbers_filter_push test first (n - first))
      ∙ map-append (pending_from after) (filter test (numbers_from first (n - first)))
      (cond (test (first + (n - first))) ((first + (n - first)) ∷ []) [])
      ∙ ap (λ x. map (pending_from after) (filter test (numbers_from first (n - first)))
      ++ map (pending_from after) (cond (test x) (x ∷ []) [])) last
      ∙ ap (λ xs. map (pending_from after) (filter test (numbers_from first (n - first))) ++ xs)
      (map_cond (pending_from after) (test n) n ∙ ap (λ p. cond (test n) (p ∷ []) []) pending_new)
      ∙ ap (λ xs. map (pending_from after) xs ++ cond (test n)
      (record { start = e.span.start; count = 1 } ∷ []) [])
      (filter_agree test old first (n - first) (λ x from below. begins_kept fed e m x
      (omega (arith, below, last))))
      ∙ ap (λ ps. ps ++ cond (test n) (record { start = e.span.start; count = 1 } ∷ []) [])
      (map_agree (pending_from after) (λ x. grown (pending_from fed x)) old first (n - first)
      (λ x from below. pending_kept x (omega (arith, below, last)))
      ∙ sym (map_twice (pending_from fed) grown (filter old (numbers_from first (n - first)))))
      ∙ ap (λ rs. map grown rs ++ cond (test n) (new_run e.span.start ∷ []) [])
      (sym (pending_runs_latest m fed some))

  -- a run that lacks elements has fewer than it will have
  few_counted : (x : ℕ) → first + 1 ≤ x → (pending_from after x).count < m
  unfolding first n
  few_counted x late = omega (arith, longer, late, some)

  -- where there are too few elements for a run, none is whole
  too_few : n + 1 < m → (oldest_whole m open_runs ≡ None) × (others m open_runs ≡ pending_runs m after) ×
      ([] ≡ chopped m after) × ([] ≡ chopped m fed)
  unfolding open_runs first n chopped runs numbers_from
  too_few short =
      let none : first ≡ 0 = omega (arith, short) in
      let next : length after + 1 - m ≡ first = omega (arith, longer, short) in
      let whole = none_whole (pending_from after) (begins_run (fronts after) m) m first (n + 1 - first)
      (λ x from below. let c : length after - x < m = omega (arith, longer, short) in c) in
      let same : pending_runs m after ≡ open_runs =
      pending_runs_latest m after some
      ∙ ap (λ k. map (pending_from after) (filter (begins_run (fronts after) m)
      (numbers_from k (length after - k)))) next
      ∙ ap (λ k. map (pending_from after) (filter (begins_run (fronts after) m)
      (numbers_from first (k - first)))) longer in
      let no_later : length after + 1 - m ≡ 0 = omega (arith, longer, short) in
      let no_earlier : length fed + 1 - m ≡ 0 = omega (arith, short) in (
        whole.0,
        whole.1 ∙ sym same,
        sym (ap (λ k. map (spanned after) (map (run_from m)
            (filter (begins_run (fronts after) m) (numbers_from 0 k)))) no_later),
        sym (ap (λ k. map (spanned fed) (map (run_from m)
            (filter (begins_run (fronts fed) m) (numbers_from 0 k)))) no_earlier),
      )

  -- else a run may have its last element now
  oldest : Bool
  oldest = begins_run (fronts after) m first

  split_open : m ≤ n + 1 → open_runs ≡ cond oldest (pending_from after first ∷ pending_runs m after)
      (pending_runs m after)
  unfolding open_runs first n oldest numbers_from
  split_open enough =
      let rest : n + 1 - first ≡ suc (n - first) = omega (arith, some) in
      let next : first + 1 ≡ length after + 1 - m = omega (arith, longer, enough) in
      let left : n - first ≡ length after - (length after + 1 - m) = omega (arith, longer, enough, some) in
      ap (λ k. map (pending_from after) (filter (begins_run (fronts after) m) (numbers_from first k))) rest
      ∙ at (begins_run (fronts after) m first) (filter (begins_run (fronts after) m)
      (numbers_from (first + 1) (n - first)))
      ∙ ap (λ k. cond oldest (pending_from after first ∷ map (pending_from after)
      (filter (begins_run (fronts after) m) (numbers_from k (n - first))))
      (map (pending_from after) (filter (begins_run (fronts after) m) (numbers_from k (n - first))))) next
      ∙ ap (λ k. cond oldest (pending_from after first ∷ map (pending_from after)
      (filter (begins_run (fronts after) m) (numbers_from (length after + 1 - m) k)))
      (map (pending_from after) (filter (begins_run (fronts after) m)
      (numbers_from (length after + 1 - m) k)))) left
      ∙ ap (λ rs. cond oldest (pending_from after first ∷ rs) rs) (sym (pending_runs_latest m after some))
    where
      at : (b : Bool) (xs : List ℕ) → map (pending_from after) (cond b (first ∷ xs) xs)
          ≡ cond b (pending_from after first ∷ map (pending_from after) xs) (map (pending_from after) xs)
      at true xs = refl
      at false xs = refl

  -- the runs that still lack elements are fewer than whole
  pending_small : (oldest_whole m (pending_runs m after) ≡ None) ×
      (others m (pending_runs m after) ≡ pending_runs m after)
  unfolding n
  pending_small =
      subst (λ rs. (oldest_whole m rs ≡ None) × (others m rs ≡ rs)) (sym (pending_runs_latest m after some))
      (none_whole (pending_from after) (begins_run (fronts after) m) m (length after + 1 - m)
      (length after - (length after + 1 - m))
      (λ x from below. let c : length after - x < m = omega (arith, longer, from, below) in c))

  -- the oldest run has all its elements, if it began so long ago
  whole_first : m ≤ n + 1 → (oldest_whole m open_runs ≡ cond oldest (Some (pending_from after first)) None) ×
      (others m open_runs ≡ pending_runs m after)
  unfolding first n
  whole_first enough =
      let all : length after - first ≡ m = omega (arith, longer, enough) in
      let whole : ((pending_from after first).count == m) ≡ true = grind (arith, nat_tests, all) in
      let parts = at oldest whole in
      (ap (oldest_whole m) (split_open enough) ∙ parts.0, ap (others m) (split_open enough) ∙ parts.1)
    where
      at : (b : Bool) → ((pending_from after first).count == m) ≡ true
          → (oldest_whole m (cond b (pending_from after first ∷ pending_runs m after) (pending_runs m after))
          ≡ cond b (Some (pending_from after first)) None)
          × (others m (cond b (pending_from after first ∷ pending_runs m after) (pending_runs m after))
          ≡ pending_runs m after)
      at true whole = (
        ap (λ c. cond c (Some (pending_from after first)) None) whole,
        ap (λ c. cond c (pending_runs m after) (pending_from after first ∷ pending_runs m after)) whole,
      )
      at false whole = pending_small

  -- what a run spans stays
  spanned_kept : (x : ℕ) → x < first → spanned after (run_from m x) ≡ spanned fed (run_from m x)
  unfolding after first n
  spanned_kept x early =
      let start : x < length fed = omega (arith, early, some) in
      let end : x + m - 1 < length fed = omega (arith, early, some) in
      ap (λ s. record { start = s; end = end_at after (x + m - 1) }) (starts_kept fed e x start)
      ∙ ap (λ t. record { start = start_at fed x; end = t }) (ends_kept fed e (x + m - 1) end)

  -- and the run that is completed ends with this element
  spanned_new : m ≤ n + 1 → spanned after (run_from m first) ≡ completed e (pending_from after first)
  unfolding after first n
  spanned_new enough =
      let last : first + m - 1 ≡ length fed = omega (arith, enough, some) in
      ap (λ i. record { start = start_at after first; end = end_at after i }) last
      ∙ ap (λ o. record {
        start = start_at after first;
        end =
            option_map_or (λ (e : Element). e.span.end) o 0;
      }) (get_last fed e)

  chopped_more : m ≤ n + 1 → chopped m after ≡ chopped m fed
      ++ cond oldest (completed e (pending_from after first) ∷ []) []
  unfolding chopped runs oldest first n after
  chopped_more enough =
      let test : ℕ → Bool = begins_run (fronts after) m in
      let old : ℕ → Bool = begins_run (fronts fed) m in
      let all : length after + 1 - m ≡ suc first = omega (arith, longer, enough) in
      let here : 0 + first ≡ first = omega arith in
      let span_of : ℕ → Span = λ x. spanned after (run_from m x) in
      let old_span : ℕ → Span = λ x. spanned fed (run_from m x) in
      map_twice (run_from m) (spanned after) (filter test (numbers_below (length after + 1 - m)))
      ∙ ap (λ k. map span_of (filter test (numbers_from 0 k))) all
      ∙ ap (map span_of) (numbers_filter_push test 0 first)
      ∙ map-append span_of (filter test (numbers_from 0 first))
      (cond (test (0 + first)) ((0 + first) ∷ []) [])
      ∙ ap (λ x. map span_of (filter test (numbers_from 0 first)) ++ map span_of (cond (test x) (x ∷ []) []))
      here
      ∙ ap (λ ys. map span_of (filter test (numbers_from 0 first)) ++ ys)
      (map_cond span_of (test first) first ∙ ap (λ y. cond (test first) (y ∷ []) []) (spanned_new enough))
      ∙ ap (λ xs. map span_of xs ++ cond (test first) (completed e (pending_from after first) ∷ []) [])
      (filter_agree test old 0 first (λ x from below. begins_kept fed e m x (omega (arith, below, some))))
      ∙ ap (λ ys. ys ++ cond (test first) (completed e (pending_from after first) ∷ []) [])
      (map_agree span_of old_span old 0 first (λ x from below. spanned_kept x (omega (arith, below)))
      ∙ sym (map_twice (run_from m) (spanned fed) (filter old (numbers_from 0 first))))

  -- the runs that lack elements on the longer list
  pub pending_push : others m (counted m fed e) ≡ pending_runs m (fed ++ e ∷ [])
  unfolding after
  pending_push =
      ap (others m) (sym open_are)
      ∙ elim (cases_lt (n + 1) m) [ inl short ↦ (too_few short).1 | inr enough ↦ (whole_first enough).1 ]

  -- and the run that is completed
  pub chopped_push : chopped m (fed ++ e ∷ []) ≡ chopped m fed
      ++ option_to_list (option_map (completed e) (oldest_whole m (counted m fed e)))
  unfolding after
  chopped_push =
      elim (cases_lt (n + 1) m) [
        | inl short ↦
            sym (too_few short).2 ∙ (too_few short).3 ∙ sym (append-nil (chopped m fed))
            ∙ ap (λ o. chopped m fed ++ option_to_list (option_map (completed e) o))
            (sym (too_few short).0 ∙ ap (oldest_whole m) open_are)
        | inr enough ↦
            chopped_more enough
            ∙ ap (λ ys. chopped m fed ++ ys) (as_list oldest (pending_from after first))
            ∙ ap (λ o. chopped m fed ++ option_to_list (option_map (completed e) o))
            (sym (whole_first enough).0 ∙ ap (oldest_whole m) open_are)
      ]
    where
      as_list : (b : Bool) (p : PendingRun) → cond b (completed e p ∷ []) []
          ≡ option_to_list (option_map (completed e) (cond b (Some p) None))
      as_list true p = refl
      as_list false p = refl
