-- The window that comes next, in the words of the law of merging.
use Rattle.std.proofs.Common.{◌≡◌, ◌⊎◌, ℕ, zero, suc, ◌+◌, ◌<◌, ◌≤◌, List, [], ◌∷◌, length, map, All, Option, None, Some, option_and_then, slice_get, slice_index, slice_index_or, slice_set, refl, sym, ap, ◌∙◌, inl, inr, subst, arith}
use Rattle.std.specs.List.{AllByRecursion}
use Rattle.std.proofs.lemmas.Bool.{cases_lt}
use Rattle.std.proofs.lemmas.List.Elements.{All-cons, All-head, All-tail}
use Rattle.event_detect.specs.declared.window.Window.{Window}
use Rattle.supply_events.specs.FirstStart.{AreOver, IsLeastFirst, Rise, first_start, start_of_first}
use Rattle.polyphase.proofs.MergeStep.{FirstsAreNotBefore, IsFirstNotBefore, Rises, least_of_firsts, merge_step, merged_none, without_first}
use Rattle.polyphase.specs.PolyphaseEvent.{merged_windows}

-- ---- no channel has a window

no_first : (ws : List Window) → start_of_first ws ≡ None → ws ≡ []
no_first [] none = refl
no_first (w ∷ ws) none = absurd (let bad : ⊥ = cc in bad)

all_empty : (channels : List (List Window)) → AreOver channels (length channels) →
    AllByRecursion (λ ws. ws ≡ []) channels
all_empty [] over = tt
all_empty (ws ∷ channels) over = (
  no_first ws (over 0 (omega arith)),
  all_empty channels (λ k inside. over (suc k) (omega (arith, inside))),
)

pub nothing_left : (channels : List (List Window)) → AreOver channels (length channels) →
    merged_windows channels ≡ []
nothing_left channels over = merged_none channels (all_empty channels over)

-- ---- windows that rise

from_later : (a b : ℕ) (ws : List Window) → a ≤ b → AllByRecursion (λ y. b < y.start) ws →
    AllByRecursion (λ y. a < y.start) ws
from_later a b [] less h = tt
from_later a b (w ∷ ws) less h = (omega (arith, less, h.0), from_later a b ws less h.1)

fewer : (w : Window) (ws : List Window) → Rise (w ∷ ws) → Rise ws
fewer w ws rise k inside =
    let step : suc k + 1 ≡ suc (k + 1) = omega arith in
    let starts = map (λ x. x.start) ws in
    subst (λ j. slice_index starts k < slice_index (w.start ∷ starts) j) step
    (rise (suc k) (omega (arith, inside)))

pub rises : (ws : List Window) → Rise ws → Rises ws
rises [] rise = tt
rises (w ∷ []) rise = (tt, tt)
rises (w ∷ v ∷ ws) rise =
    let rest = rises (v ∷ ws) (fewer w (v ∷ ws) rise) in
    let first : w.start < v.start = rise 0 (omega arith) in
    ((first, from_later w.start v.start ws (omega (arith, first)) rest.0), rest)

pub all_rise : (channels : List (List Window)) → All Rise channels → AllByRecursion Rises channels
all_rise [] h = tt
all_rise (ws ∷ channels) h = (
  rises ws (All-head Rise ws channels h),
  all_rise channels (All-tail Rise ws channels h),
)

-- ---- the channel whose window comes next

firsts : (c : ℕ) (x : Window) (k : ℕ) (channels : List (List Window)) →
    ((j s : ℕ) → j < length channels → first_start channels j ≡ Some s →
    (x.start < s) ⊎ ((x.start ≡ s) × (c ≤ k + j))) → FirstsAreNotBefore c x k channels
firsts c x k [] least = tt
firsts c x k (ws ∷ channels) least = (
  here ws (λ s is. least 0 s (omega arith) is),
  firsts c x (k + 1) channels (λ j s inside is. next j s (least (suc j) s (omega (arith, inside)) is)),
)
  where
    next : (j s : ℕ) → (x.start < s) ⊎ ((x.start ≡ s) × (c ≤ k + suc j)) →
        (x.start < s) ⊎ ((x.start ≡ s) × (c ≤ k + 1 + j))
    next j s (inl less) = inl less
    next j s (inr tie) = inr (tie.0, omega (arith, tie.1))

    tied : (y : Window) (ys : List Window) → x.start ≡ y.start → c ≤ k →
        (k ≡ c) ⊎ IsFirstNotBefore c x k (y ∷ ys)
    tied y ys same from = elim (cases_lt c k) [
      | inl less ↦ inr (inr (same, less))
      | inr rest ↦ inl (omega (arith, from, rest))
    ]

    at : (y : Window) (ys : List Window) → (x.start < y.start) ⊎ ((x.start ≡ y.start) × (c ≤ k + 0)) →
        (k ≡ c) ⊎ IsFirstNotBefore c x k (y ∷ ys)
    at y ys (inl less) = inr (inl less)
    at y ys (inr tie) = tied y ys tie.0 (omega (arith, tie.1))

    here : (ws : List Window) → ((s : ℕ) → start_of_first ws ≡ Some s →
        (x.start < s) ⊎ ((x.start ≡ s) × (c ≤ k + 0))) → (k ≡ c) ⊎ IsFirstNotBefore c x k ws
    here [] h = inr tt
    here (y ∷ ys) h = at y ys (h y.start refl)

-- where the channel at a position is told by its first start, that window is the first of the merged ones
pub next_first : (channels : List (List Window)) (c start : ℕ) (x : Window) (xs : List Window) →
    AllByRecursion Rises channels → IsLeastFirst channels (length channels) c start →
    slice_get channels c ≡ Some (x ∷ xs) →
    merged_windows channels ≡ record { channel = c; window = x }
    ∷ merged_windows (without_first channels c xs)
next_first channels c start x xs rise least is =
    let same : Some x.start ≡ Some start =
    sym (ap (λ o. first_of o) is) ∙ least.is_start in
    let begins : x.start ≡ start = cc in
    merge_step channels c x xs is
    (least_of_firsts channels c x xs is rise
    (firsts c x 0 channels (λ j s inside told.
    moved j s begins (least.least j s inside told))))
  where
    first_of : Option (List Window) → Option ℕ
    first_of None = None
    first_of (Some ws) = start_of_first ws

    moved : (j s : ℕ) → x.start ≡ start → (start < s) ⊎ ((start ≡ s) × (c ≤ j)) →
        (x.start < s) ⊎ ((x.start ≡ s) × (c ≤ 0 + j))
    moved j s begins (inl less) = inl (omega (arith, begins, less))
    moved j s begins (inr tie) = inr (begins ∙ tie.0, omega (arith, tie.1))

-- ---- taken off

-- a channel that is looked up
pub got : (channels : List (List Window)) (c : ℕ) (ws : List Window) → c < length channels →
    ws ≡ slice_index_or channels c ws → slice_get channels c ≡ Some ws
got [] c ws inside is = absurd (omega (arith, inside))
got (x ∷ channels) zero ws inside is = ap Some (sym is)
got (x ∷ channels) (suc c) ws inside is = got channels c ws (omega (arith, inside)) is

first_of_some : (channels : List (List Window)) (c : ℕ) (ws : List Window) (start : ℕ) →
    slice_get channels c ≡ Some ws → first_start channels c ≡ Some start → start_of_first ws ≡ Some start
first_of_some channels c ws start is told = sym (ap (option_and_then start_of_first) is) ∙ told

-- the channel that was found has a window
pub not_over : (channels : List (List Window)) (n c start : ℕ) (ws : List Window) →
    IsLeastFirst channels n c start → slice_get channels c ≡ Some ws → ws ≡ [] → ⊥
not_over channels n c start ws least is empty =
    let told = first_of_some channels c ws start is least.is_start in
    clash (subst (λ xs. start_of_first xs ≡ Some start) empty told)
  where
    clash : start_of_first [] ≡ Some start → ⊥
    clash e = cc

set_is : (channels : List (List Window)) (c : ℕ) (ws : List Window) →
    slice_set channels c ws ≡ without_first channels c ws
set_is [] c ws = refl
set_is (x ∷ channels) zero ws = refl
set_is (x ∷ channels) (suc c) ws = ap (λ xs. x ∷ xs) (set_is channels c ws)

-- its first window is the first of the merged ones, and the rest are merged from what it leaves
pub one_taken : (channels : List (List Window)) (c start : ℕ) (x : Window) (ws xs : List Window) →
    All Rise channels → IsLeastFirst channels (length channels) c start → slice_get channels c ≡ Some ws →
    ws ≡ x ∷ xs → merged_windows channels ≡ record { channel = c; window = x }
    ∷ merged_windows (slice_set channels c xs)
one_taken channels c start x ws xs rise least is taken =
    next_first channels c start x xs (all_rise channels rise) least (is ∙ ap Some taken)
    ∙ ap (λ rest. record { channel = c; window = x } ∷ merged_windows rest) (sym (set_is channels c xs))

-- and they rise still
pub still_rise : (channels : List (List Window)) (c : ℕ) (x : Window) (ws xs : List Window) →
    All Rise channels → slice_get channels c ≡ Some ws → ws ≡ x ∷ xs → All Rise (slice_set channels c xs)
still_rise [] c x ws xs rise is taken = absurd (let bad : ⊥ = cc in bad)
still_rise (ys ∷ channels) zero x ws xs rise is taken =
    All-cons Rise xs channels (fewer x xs (subst Rise (inside is ∙ taken) (All-head Rise ys channels rise)))
    (All-tail Rise ys channels rise)
  where
    inside : Some ys ≡ Some ws → ys ≡ ws
    inside e = cc
still_rise (ys ∷ channels) (suc c) x ws xs rise is taken =
    All-cons Rise ys (slice_set channels c xs) (All-head Rise ys channels rise)
    (still_rise channels c x ws xs (All-tail Rise ys channels rise) is taken)
