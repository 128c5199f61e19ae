-- What a chopper holds agrees with what it was fed, and goes on to.
use Rattle.std.proofs.Common.{◌≡◌, ℕ, ◌+◌, ◌-◌, ◌≤◌, Bool, true, false, cond, ◌==◌, ◌||◌, List, [], ◌∷◌, ◌++◌, length, map, filter, Option, Some, None, option_map, option_to_list, refl, sym, ◌∙◌, ap, subst, arith}
use Rattle.std.proofs.lemmas.Bool.Decides.{nat_tests}
use Rattle.ten_twelve.specs.declared.unfinished.UnfinishedRun.{UnfinishedRun}
use Rattle.ten_twelve.specs.declared.span.Span.{Span}
use Rattle.ten_twelve.specs.Chopper.{ChopperView, IsFed, MayFollow, Completes, SeesMore}
use Rattle.ten_twelve.specs.Unfinished.{grown, new_run, oldest_whole, others, is_nil, next_pending, pending_view}
use Rattle.ten_twelve.specs.Run.{Element, PendingRun, begins_run, fronts, chopped, pending_from, pending_runs}
use Rattle.ten_twelve.proofs.BeginLaws.{begins_with}
use Rattle.ten_twelve.proofs.PendingLaws.{counted, completed, pending_push, chopped_push, pending_runs_latest}
use Rattle.pq_words.specs.Steps.{numbers_from}

-- a new run is not whole, where a run has two elements or more
whole_before_new : (m : ℕ) (xs : List PendingRun) (b : Bool) (e : Element) → 2 ≤ m →
    oldest_whole m (xs ++ cond b (new_run e.span.start ∷ []) []) ≡ oldest_whole m xs
whole_before_new m [] false e long = refl
whole_before_new m [] true e long = let no : (1 == m) ≡ false = grind (arith, nat_tests, long) in
    ap (λ c. cond c (Some (new_run e.span.start)) None) no
whole_before_new m (x ∷ xs) b e long = refl

others_before_new : (m : ℕ) (xs : List PendingRun) (b : Bool) (e : Element) → 2 ≤ m →
    others m (xs ++ cond b (new_run e.span.start ∷ []) [])
    ≡ others m xs ++ cond b (new_run e.span.start ∷ []) []
others_before_new m [] false e long = refl
others_before_new m [] true e long = let no : (1 == m) ≡ false = grind (arith, nat_tests, long) in
    ap (λ c. cond c [] (new_run e.span.start ∷ [])) no
others_before_new m (x ∷ xs) b e long = at (x.count == m)
  where
    at : (c : Bool)
        → cond c (xs ++ cond b (new_run e.span.start ∷ []) [])
        (x ∷ (xs ++ cond b (new_run e.span.start ∷ []) []))
        ≡ cond c xs (x ∷ xs) ++ cond b (new_run e.span.start ∷ []) []
    at true = refl
    at false = refl

-- what they are once they have counted the element
counted_is : (m : ℕ) (fed : List Element) (e : Element) → 1 ≤ m → IsFed m (fed ++ e ∷ []) → counted m fed e
    ≡ map grown (pending_runs m fed)
    ++ cond (e.front || is_nil (pending_runs m fed)) (new_run e.span.start ∷ []) []
counted_is m fed e some h = ap (λ b. map grown (pending_runs m fed) ++ cond b (new_run e.span.start ∷ []) [])
    (begins_with fed e m some h.first)

pending_next : (m : ℕ) (fed : List Element) (e : Element) → 2 ≤ m → IsFed m (fed ++ e ∷ []) →
    next_pending m (pending_runs m fed) e.front e.span.start ≡ pending_runs m (fed ++ e ∷ [])
pending_next m fed e long h =
    sym (others_before_new m (map grown (pending_runs m fed)) (e.front || is_nil (pending_runs m fed)) e long)
    ∙ ap (others m) (sym (counted_is m fed e (omega (arith, long)) h))
    ∙ pending_push fed e m (omega (arith, long))

-- the answer to one more element
pub completes_of : (w : ChopperView) (e : Element) (answer : Option Span) → 2 ≤ w.length → answer
    ≡ option_map (completed e) (oldest_whole w.length (map grown w.pending)) → Completes w e answer
completes_of w e answer long is fed seen h =
    let m = w.length in
    chopped_push fed e m (omega (arith, long))
    ∙ ap (λ rs. chopped m fed ++ option_to_list (option_map (completed e) (oldest_whole m rs)))
    (counted_is m fed e (omega (arith, long)) h)
    ∙ ap (λ o. chopped m fed ++ option_to_list (option_map (completed e) o))
    (whole_before_new m (map grown (pending_runs m fed)) (e.front || is_nil (pending_runs m fed)) e long
    ∙ ap (λ rs. oldest_whole m (map grown rs)) (sym seen))
    ∙ ap (λ o. chopped m fed ++ option_to_list o) (sym is)

-- what is held after it
pub sees_of : (w : ChopperView) (e : Element) (runs : List PendingRun) → 2 ≤ w.length → runs
    ≡ next_pending w.length w.pending e.front e.span.start →
    SeesMore w (record { length = w.length; pending = runs }) e
sees_of w e runs long is fed seen h = is ∙ ap (λ rs. next_pending w.length rs e.front e.span.start) seen
    ∙ pending_next w.length fed e long h

-- at most two runs lack elements then
pub few_of : (w : ChopperView) (e : Element) → 2 ≤ w.length → MayFollow w e →
    length (next_pending w.length w.pending e.front e.span.start) ≤ 2
few_of w e long may =
    let fed = may.0 in
    let same : next_pending w.length w.pending e.front e.span.start ≡ pending_runs w.length (fed ++ e ∷ []) =
    ap (λ rs. next_pending w.length rs e.front e.span.start) may.1
    ∙ pending_next w.length fed e long may.2 in
    omega (arith, ap length same, may.2.few)

-- ---- runs of one element

none_pending : (fed : List Element) → pending_runs 1 fed ≡ []
unfolding numbers_from
none_pending fed =
    let first : length fed + 1 - 1 ≡ length fed = omega arith in
    let none : length fed - length fed ≡ 0 = omega arith in
    pending_runs_latest 1 fed (omega arith)
    ∙ ap (λ k. map (pending_from fed) (filter (begins_run (fronts fed) 1)
    (numbers_from k (length fed - k)))) first
    ∙ ap (λ k. map (pending_from fed) (filter (begins_run (fronts fed) 1) (numbers_from (length fed) k))) none

one_counted : (fed : List Element) (e : Element) → IsFed 1 (fed ++ e ∷ []) →
    counted 1 fed e ≡ new_run e.span.start ∷ []
one_counted fed e h =
    counted_is 1 fed e (omega arith) h ∙ ap (λ rs. map grown rs
    ++ cond (e.front || is_nil rs) (new_run e.span.start ∷ []) []) (none_pending fed)
    ∙ ap (λ b. cond b (new_run e.span.start ∷ []) []) (at e.front)
  where
    at : (b : Bool) → (b || true) ≡ true
    at true = refl
    at false = refl

pub completes_one : (w : ChopperView) (e : Element) → w.length ≡ 1 → Completes w e (Some e.span)
completes_one w e is = let P : ℕ → Type 0 = λ m. Completes (record { length = m; pending = w.pending }) e
    (Some e.span) in subst P (sym is) at
  where
    at : Completes (record { length = 1; pending = w.pending }) e (Some e.span)
    at fed seen h = chopped_push fed e 1 (omega arith)
        ∙ ap (λ rs. chopped 1 fed ++ option_to_list (option_map (completed e) (oldest_whole 1 rs)))
        (one_counted fed e h)

pub sees_one : (w : ChopperView) (e : Element) → w.length ≡ 1 → SeesMore w w e
sees_one w e is = let P : ℕ → Type 0 = λ m. SeesMore (record { length = m; pending = w.pending })
    (record { length = m; pending = w.pending }) e in subst P (sym is) at
  where
    at : SeesMore (record { length = 1; pending = w.pending }) (record { length = 1; pending = w.pending }) e
    at fed seen h = seen ∙ none_pending fed ∙ sym (none_pending (fed ++ e ∷ []))

-- ---- what a chopper is made with, and what it gives

-- of no element nothing is left
pub nothing_pending : (m : ℕ) → [] ≡ pending_runs m []
unfolding pending_runs numbers_from
nothing_pending m = refl

-- the span of a run that was taken out
pub shown_span : (o : Option UnfinishedRun) (e : Element) →
    option_map (λ (r : UnfinishedRun). record { start = r.start; end = e.span.end }) o
    ≡ option_map (completed e) (option_map pending_view o)
shown_span None e = refl
shown_span (Some r) e = refl
