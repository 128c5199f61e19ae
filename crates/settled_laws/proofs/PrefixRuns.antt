-- Runs over more elements: those over the elements so far stay, and all others end later.
use Rattle.std.proofs.Common.{◌≡◌, ℕ, zero, suc, ◌+◌, ◌-◌, ◌%◌, ◌<◌, ◌≤◌, Bool, true, false, cond, ◌==◌, nat_le, None, List, [], ◌∷◌, ◌++◌, length, map, filter, refl, ◌∙◌, ap, arith}
use Rattle.std.specs.List.{AllByRecursion, enumerate_from, last_or}
use Rattle.std.specs.Option.{option_map_or}
use Rattle.std.proofs.lemmas.Bool.Decides.{nat_tests}
use Rattle.std.proofs.lemmas.List.{map-append, append-nil}
use Rattle.std.proofs.lemmas.List.Elements.{filter-append}
use Rattle.ten_twelve.specs.declared.span.Span.{Span}
use Rattle.ten_twelve.specs.Run.{latest_start, begins_run, run_from, runs, marked}
use Rattle.ten_twelve.proofs.NumberLemmas.{numbers_split, filter_agree}
use Rattle.pq_words.specs.Steps.{numbers_from, numbers_below}

-- what holds of some numbers holds of those among them that pass a test
numbers_all : (P : ℕ → Type 0) (p : ℕ → Bool) (low n : ℕ) → ((x : ℕ) → low ≤ x → x < low + n → P x) →
    AllByRecursion P (filter p (numbers_from low n))
unfolding numbers_from
numbers_all P p low zero h = tt
numbers_all P p low (suc n) h =
    at (p low)
    (numbers_all P p (low + 1) n (λ x from below. h x (omega (arith, from)) (omega (arith, below))))
  where
    at : (b : Bool) → AllByRecursion P (filter p (numbers_from (low + 1) n)) →
        AllByRecursion P (cond b (low ∷ filter p (numbers_from (low + 1) n))
        (filter p (numbers_from (low + 1) n)))
    at true rest = (h low (omega arith) (omega arith), rest)
    at false rest = rest

-- ---- starts that come later change no run before them

none_below : (x low : ℕ) (gs : List ℕ) → x < low → AllByRecursion (λ g. low ≤ g) gs →
    filter (λ g. nat_le g x) gs ≡ []
none_below x low [] h all = refl
none_below x low (g ∷ gs) h all =
    ap (λ b. cond b (g ∷ filter (λ g. nat_le g x) gs) (filter (λ g. nat_le g x) gs)) (fails g all.0)
    ∙ none_below x low gs h all.1
  where
    fails : (g : ℕ) → low ≤ g → nat_le g x ≡ false
    fails g above = grind (arith, nat_tests, above, h)

latest_kept : (starts more : List ℕ) (x low : ℕ) → x < low → AllByRecursion (λ g. low ≤ g) more →
    latest_start (starts ++ more) x ≡ latest_start starts x
latest_kept starts more x low below all =
    let test : ℕ → Bool = λ g. nat_le g x in
    ap (last_or None) (filter-append test starts more
    ∙ ap (λ gs. filter test starts ++ gs) (none_below x low more below all)
    ∙ append-nil (filter test starts))

begins_kept : (starts more : List ℕ) (m x low : ℕ) → x < low → AllByRecursion (λ g. low ≤ g) more →
    begins_run (starts ++ more) m x ≡ begins_run starts m x
begins_kept starts more m x low below all =
    ap (λ o. option_map_or (λ g. (x - g) % m == 0) o false) (latest_kept starts more x low below all)

-- a run of so many elements that ends by place n
abbrev pub IsRunIn : ℕ → ℕ → Span → Type 0
IsRunIn m n run = (run.start + m ≡ run.end) × (run.end ≤ n)

mapped_all : (P : Span → Type 0) (m : ℕ) (xs : List ℕ) → AllByRecursion (λ x. P (run_from m x)) xs →
    AllByRecursion P (map (run_from m) xs)
mapped_all P m [] h = tt
mapped_all P m (x ∷ xs) h = (h.0, mapped_all P m xs h.1)

pub runs_inside : (starts : List ℕ) (m count : ℕ) → AllByRecursion (IsRunIn m count) (runs starts m count)
unfolding runs
runs_inside starts m count =
    mapped_all (IsRunIn m count) m (filter (begins_run starts m) (numbers_below (count + 1 - m)))
    (numbers_all (λ x. IsRunIn m count (run_from m x)) (begins_run starts m) 0 (count + 1 - m)
    (λ x from below. (omega arith, omega (arith, below))))

-- the runs that end later
abbrev pub later_runs : List ℕ → ℕ → ℕ → ℕ → List Span
later_runs starts m count further =
    map (run_from m) (filter (begins_run starts m)
    (numbers_from (0 + (count + 1 - m)) ((count + further + 1 - m) - (count + 1 - m))))

pub runs_more : (starts more : List ℕ) (m count further : ℕ) → 1 ≤ m → AllByRecursion (λ g. count ≤ g) more
    → runs (starts ++ more) m (count + further)
    ≡ runs starts m count ++ later_runs (starts ++ more) m count further
unfolding runs
runs_more starts more m count further some all =
    let n = count + 1 - m in
    let d = (count + further + 1 - m) - n in
    let parts : count + further + 1 - m ≡ n + d = omega arith in
    let test = begins_run (starts ++ more) m in
    let later = numbers_from (0 + n) d in
    ap (λ k. map (run_from m) (filter test (numbers_from 0 k))) parts
    ∙ ap (λ xs. map (run_from m) (filter test xs)) (numbers_split 0 n d)
    ∙ ap (map (run_from m)) (filter-append test (numbers_from 0 n) later)
    ∙ map-append (run_from m) (filter test (numbers_from 0 n)) (filter test later)
    ∙ ap (λ xs. map (run_from m) xs ++ map (run_from m) (filter test later))
    (filter_agree test (begins_run starts m) 0 n
    (λ x from below. begins_kept starts more m x count (omega (arith, below, some)) all))

-- such a run ends after so many elements, and not after so many and the further ones
abbrev pub IsLaterRun : ℕ → ℕ → ℕ → Span → Type 0
IsLaterRun m count further run =
    (run.start + m ≡ run.end) × (count < run.end) × (run.end ≤ count + further)

pub later_past : (starts : List ℕ) (m count further : ℕ) →
    AllByRecursion (IsLaterRun m count further) (later_runs starts m count further)
later_past starts m count further =
    let low = 0 + (count + 1 - m) in
    let n = (count + further + 1 - m) - (count + 1 - m) in
    mapped_all (IsLaterRun m count further) m (filter (begins_run starts m) (numbers_from low n))
    (numbers_all (λ x. IsLaterRun m count further (run_from m x)) (begins_run starts m) low n
    (λ x from below. (refl, omega (arith, from), omega (arith, below, from))))

-- ---- marks

enumerate_append : {X : Type 0} (a : ℕ) (xs ys : List X) →
    enumerate_from a (xs ++ ys) ≡ enumerate_from a xs ++ enumerate_from (a + length xs) ys
enumerate_append a [] ys = let e : a ≡ a + 0 = omega arith in ap (λ n. enumerate_from n ys) e
enumerate_append a (x ∷ xs) ys =
    let e : a + 1 + length xs ≡ a + length (x ∷ xs) = omega arith in
    ap (λ zs. (a, x) ∷ zs) (enumerate_append (a + 1) xs ys
    ∙ ap (λ n. enumerate_from (a + 1) xs ++ enumerate_from n ys) e)

-- the indices of further marks
abbrev pub marked_from : ℕ → List Bool → List ℕ
marked_from n marks = map (λ p. p.0) (filter (λ p. p.1) (enumerate_from n marks))

pub marked_more : (xs ys : List Bool) → marked (xs ++ ys) ≡ marked xs ++ marked_from (0 + length xs) ys
unfolding marked
marked_more xs ys =
    let index : ℕ × Bool → ℕ = λ p. p.0 in
    let mark : ℕ × Bool → Bool = λ p. p.1 in
    ap (λ ps. map index (filter mark ps)) (enumerate_append 0 xs ys)
    ∙ ap (map index) (filter-append mark (enumerate_from 0 xs) (enumerate_from (0 + length xs) ys))
    ∙ map-append index (filter mark (enumerate_from 0 xs))
    (filter mark (enumerate_from (0 + length xs) ys))

pub marked_late : (n m : ℕ) (marks : List Bool) → n ≤ m → AllByRecursion (λ g. n ≤ g) (marked_from m marks)
marked_late n m [] h = tt
marked_late n m (true ∷ marks) h = (h, marked_late n (m + 1) marks (omega (arith, h)))
marked_late n m (false ∷ marks) h = marked_late n (m + 1) marks (omega (arith, h))
