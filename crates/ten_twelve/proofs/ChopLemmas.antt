-- The runs over a list of starts, start by start.
use Rattle.std.proofs.Common.{◌≡◌, ℕ, ◌⊎◌, ◌+◌, ◌-◌, ◌*◌, ◌%◌, ◌<◌, ◌≤◌, min, Bool, true, false, cond, nat_le, ◌==◌, List, [], ◌∷◌, ◌++◌, length, take, get_or, map, filter, Option, Some, None, refl, sym, ◌∙◌, ap, inl, inr, arith}
use Rattle.std.specs.Int.{div_ceil}
use Rattle.std.specs.Option.{option_map_or}
use Rattle.std.specs.List.{last_or}
use Rattle.std.specs.List.Sorted.{IsStrictlyIncreasing}
use Rattle.std.proofs.lemmas.Bool.{cases_lt}
use Rattle.std.proofs.lemmas.Bool.Decides.{nat_tests}
use Rattle.std.proofs.lemmas.List.{map-append, append-nil, take_more, take_all, get_or_default, get_or_past}
use Rattle.std.proofs.lemmas.List.Elements.{filter-append}
use Rattle.ten_twelve.specs.declared.span.Span.{Span}
use Rattle.ten_twelve.specs.Run.{latest_start, begins_run, run_from, runs, runs_after}
use Rattle.ten_twelve.proofs.NumberLemmas.{numbers_split, filter_agree, filter_nothing, filter_push, multiples, nothing_up}
use Rattle.ten_twelve.proofs.StepLemmas.{no_runs}
use Rattle.pq_words.specs.Steps.{numbers_from, numbers_below}

last_or_push : (o : Option ℕ) (xs : List ℕ) (g : ℕ) → last_or o (xs ++ g ∷ []) ≡ Some g
last_or_push o [] g = refl
last_or_push o (x ∷ xs) g = last_or_push (Some x) xs g

-- the latest start, with a start more
latest_push : (starts : List ℕ) (g x : ℕ) → latest_start (starts ++ g ∷ []) x
    ≡ cond (nat_le g x) (Some g) (latest_start starts x)
latest_push starts g x =
    ap (last_or None) (filter_push (λ s. nat_le s x) starts g) ∙ at (nat_le g x)
  where
    at : (b : Bool) → last_or None (filter (λ s. nat_le s x) starts ++ cond b (g ∷ []) [])
        ≡ cond b (Some g) (latest_start starts x)
    at true = last_or_push None (filter (λ s. nat_le s x) starts) g
    at false = ap (last_or None) (append-nil (filter (λ s. nat_le s x) starts))

-- a start more
begins_at : (starts : List ℕ) (g m x : ℕ) (b : Bool)
    → option_map_or (λ s. (x - s) % m == 0) (cond b (Some g) (latest_start starts x)) false
    ≡ cond b ((x - g) % m == 0) (begins_run starts m x)
begins_at starts g m x true = refl
begins_at starts g m x false = refl

pub begins_push : (starts : List ℕ) (g m x : ℕ) → begins_run (starts ++ g ∷ []) m x
    ≡ cond (nat_le g x) ((x - g) % m == 0) (begins_run starts m x)
begins_push starts g m x =
    ap (λ o. option_map_or (λ s. (x - s) % m == 0) o false) (latest_push starts g x)
    ∙ begins_at starts g m x (nat_le g x)

-- before it nothing changes, and from it on whole lengths count
pub begins_before : (starts : List ℕ) (g m x : ℕ) → x < g → begins_run starts m x
    ≡ begins_run (starts ++ g ∷ []) m x
begins_before starts g m x early =
    let no : nat_le g x ≡ false = grind (arith, nat_tests, early) in
    sym (begins_push starts g m x ∙ ap (λ b. cond b ((x - g) % m == 0) (begins_run starts m x)) no)

pub begins_from : (starts : List ℕ) (g m x : ℕ) → g ≤ x → begins_run (starts ++ g ∷ []) m x
    ≡ ((x - g) % m == 0)
begins_from starts g m x late =
    let is : nat_le g x ≡ true = grind (arith, nat_tests, late) in
    begins_push starts g m x ∙ ap (λ b. cond b ((x - g) % m == 0) (begins_run starts m x)) is

-- the runs that begin below an index
unfoldable pub runs_below : List ℕ → ℕ → ℕ → List Span
runs_below starts m bound = map (run_from m) (filter (begins_run starts m) (numbers_below bound))

-- with no start there is none
pub none_below : (m bound : ℕ) → [] ≡ runs_below [] m bound
unfolding runs_below
none_below m bound = ap (map (run_from m)) (sym (filter_nothing (begins_run [] m) 0 bound
    (λ x from below. refl)))

map_runs : (g m n : ℕ) → map (run_from m) (map (λ k. g + k * m) (numbers_below n)) ≡ runs_after m g n
unfolding runs_after
map_runs g m n = at (numbers_below n)
  where
    at : (ks : List ℕ) → map (run_from m) (map (λ k. g + k * m) ks) ≡ map (λ k. run_from m (g + k * m)) ks
    at [] = refl
    at (k ∷ ks) = ap (λ rs. run_from m (g + k * m) ∷ rs) (at ks)

-- a start more, up to some index after it
from_start : (starts : List ℕ) (g m n : ℕ) → 1 ≤ m → runs_below starts m g ++ runs_after m g (div_ceil n m)
    ≡ runs_below (starts ++ g ∷ []) m (g + n)
unfolding runs_below
from_start starts g m n some =
    let test : ℕ → Bool = begins_run (starts ++ g ∷ []) m in
    let front : filter (begins_run starts m) (numbers_from 0 g) ≡ filter test (numbers_from 0 g) =
    filter_agree (begins_run starts m) test 0 g (λ x from below. begins_before starts g m x
    (omega (arith, below))) in
    let whole : filter test (numbers_from g n) ≡ map (λ k. g + k * m) (numbers_below (div_ceil n m)) =
    filter_agree test (λ x. (x - g) % m == 0) g n (λ x from below. begins_from starts g m x from)
    ∙ multiples g m n some in
    let here : 0 + g ≡ g = omega arith in
    let all : filter test (numbers_from 0 (g + n)) ≡ filter test (numbers_from 0 g)
    ++ filter test (numbers_from g n) =
    ap (filter test) (numbers_split 0 g n ∙ ap (λ l. numbers_from 0 g ++ numbers_from l n) here)
    ∙ filter-append test (numbers_from 0 g) (numbers_from g n) in
    ap (λ xs. map (run_from m) xs ++ runs_after m g (div_ceil n m)) front
    ∙ ap (λ rs. map (run_from m) (filter test (numbers_from 0 g)) ++ rs) (sym (map_runs g m (div_ceil n m)))
    ∙ ap (λ xs. map (run_from m) (filter test (numbers_from 0 g)) ++ map (run_from m) xs) (sym whole)
    ∙ sym (map-append (run_from m) (filter test (numbers_from 0 g)) (filter test (numbers_from g n)))
    ∙ ap (map (run_from m)) (sym all)

-- a start at the end or past it begins nothing
past_end : (starts : List ℕ) (g m bound : ℕ) → bound ≤ g → runs_below starts m bound
    ≡ runs_below (starts ++ g ∷ []) m bound
unfolding runs_below
past_end starts g m bound late = ap (map (run_from m))
    (filter_agree (begins_run starts m) (begins_run (starts ++ g ∷ []) m) 0 bound
    (λ x from below. begins_before starts g m x (omega (arith, below, late))))

-- one start more of a rising list
pub chop_step : (starts : List ℕ) (i g next m end : ℕ) (old now : List Span) → 1 ≤ m → i < length starts →
    get_or starts i g ≡ g → (end ≤ next) ⊎ (g < next)
    → old ≡ runs_below (take i starts) m (min (get_or starts i end) end) → now ≡ old
    ++ runs_after m g (div_ceil (min next end - g) m)
    → now ≡ runs_below (take (i + 1) starts) m (min next end)
chop_step starts i g next m end old now some inside is later before after =
    let here : get_or starts i end ≡ g = get_or_default starts i end g inside ∙ is in
    let longer : take (i + 1) starts ≡ take i starts ++ g ∷ [] = take_more starts i g inside
    ∙ ap (λ s. take i starts ++ s ∷ []) is in
    let old_is : old ≡ runs_below (take i starts) m (min g end) = before
    ∙ ap (λ s. runs_below (take i starts) m (min s end)) here in
    elim (cases_lt g end) [
      | inl early ↦
          let n : ℕ = min next end - g in
          let first : min g end ≡ g = omega (arith, early) in
          let last : g + n ≡ min next end = after_start later early in
          after
          ∙ ap (λ rs. rs ++ runs_after m g (div_ceil n m)) (old_is ∙ ap (runs_below (take i starts) m) first)
          ∙ from_start (take i starts) g m n some
          ∙ ap (λ s. runs_below s m (g + n)) (sym longer)
          ∙ ap (runs_below (take (i + 1) starts) m) last
      | inr past ↦
          let none : min next end - g ≡ 0 = omega (arith, past) in
          let first : min g end ≡ end = omega (arith, past) in
          let last : end ≡ min next end = at_end later past in
          after
          ∙ ap (λ n. old ++ runs_after m g (div_ceil n m)) none
          ∙ ap (λ c. old ++ runs_after m g c) (nothing_up m some)
          ∙ sym (no_runs old m g)
          ∙ old_is
          ∙ ap (runs_below (take i starts) m) first
          ∙ past_end (take i starts) g m end past
          ∙ ap (λ s. runs_below s m end) (sym longer)
          ∙ ap (runs_below (take (i + 1) starts) m) last
    ]
  where
    after_start : (end ≤ next) ⊎ (g < next) → g < end → g + (min next end - g) ≡ min next end
    after_start (inl h) early = omega (arith, h, early)
    after_start (inr h) early = omega (arith, h, early)

    at_end : (end ≤ next) ⊎ (g < next) → end ≤ g → end ≡ min next end
    at_end (inl h) past = omega (arith, h)
    at_end (inr h) past = omega (arith, h, past)

-- the next start is later, or there is none
pub next_later : (starts : List ℕ) (i end : ℕ) → IsStrictlyIncreasing starts → i < length starts →
    (end ≤ get_or starts (i + 1) end) ⊎ (get_or starts i 0 < get_or starts (i + 1) end)
next_later starts i end rising inside =
    elim (cases_lt (i + 1) (length starts)) [
      | inl more ↦ let same : get_or starts (i + 1) end ≡ get_or starts (i + 1) 0 =
          get_or_default starts (i + 1) end 0 more in inr (omega (arith, rising i more, same))
      | inr last ↦ let past : get_or starts (i + 1) end ≡ end = get_or_past starts (i + 1) end last in
          inl (omega (arith, past))
    ]

-- after the last start
pub chop_end : (starts : List ℕ) (i m count end : ℕ) → 1 ≤ m → length starts ≤ i → end ≡ count - (m - 1) →
    runs_below (take i starts) m (min (get_or starts i end) end) ≡ runs starts m count
unfolding runs_below runs
chop_end starts i m count end some past is =
    let bound : min (get_or starts i end) end ≡ count + 1 - m = let none : get_or starts i end ≡ end =
    get_or_past starts i end past in omega (arith, none, is, some) in
    ap (λ s. runs_below s m (min (get_or starts i end) end)) (take_all i starts past)
    ∙ ap (runs_below starts m) bound
