-- The merged windows by how far each channel's are merged: which one is next, and what is left.
use Rattle.std.proofs.Common.{◌≡◌, ◌≢◌, ℕ, zero, suc, ◌+◌, ◌<◌, ◌≤◌, ◌⊎◌, List, [], ◌∷◌, length, map, drop, slice_get, Some, refl, sym, ◌∙◌, ap, subst, inl, inr, arith}
use Rattle.std.specs.List.{AllByRecursion}
use Rattle.std.proofs.lemmas.Bool.{cases_lt}
use Rattle.event_detect.specs.declared.window.Window.{Window}
use Rattle.half_cycle.proofs.WindowBounds.{Follow, windows_follow}
use Rattle.interval_ledger.specs.Left.{IsLeft, windows_left}
use Rattle.lanes.specs.Lane.{windows_at}
use Rattle.polyphase.specs.PolyphaseEvent.{merged_windows}
use Rattle.polyphase.proofs.MergeStep.{IsNotBefore, AreNotBefore, without_first, merge_step}
use Rattle.pq_base.specs.Recorded.{Recorded, IsRecording, samples_at}
use Rattle.pq_sequence.specs.MeasuredRecording.{channel_count, recorded_rule, recorded_windows}
use Rattle.pq_sequence.proofs.ResultLaws.{rule_of_recording}
use Rattle.pq_words.specs.Steps.{numbers_from}
use Rattle.settled_laws.proofs.ListLaws.{all_from}

-- ---- a channel's windows begin one after another

pub windows_begin : (r : Recorded) (c : ℕ) → IsRecording r
    → Follow (length (samples_at r c)) 0 (windows_at r c)
windows_begin r c given = windows_follow (samples_at r c) (recorded_rule r) (rule_of_recording r given)

begun_later : (n low x : ℕ) (vs : List Window) → x < low → Follow n low vs →
    AllByRecursion (λ v. x < v.start) vs
begun_later n low x [] less h = tt
begun_later n low x (v ∷ vs) less h =
    let from = h.0 in
    (omega (arith, less, from), begun_later n (v.start + 1) x vs (omega (arith, less, from)) h.3)

some_same : (v x : Window) → Some v ≡ Some x → v ≡ x
some_same v x e = cc

-- those after one begin after it
pub after_one : (n low k : ℕ) (vs : List Window) (x : Window) → Follow n low vs → slice_get vs k ≡ Some x →
    AllByRecursion (λ v. x.start < v.start) (drop (suc k) vs)
after_one n low zero [] x h is = tt
after_one n low (suc k) [] x h is = tt
after_one n low zero (v ∷ vs) x h is =
    subst (λ u. AllByRecursion (λ w. u.start < w.start) vs) (some_same v x is)
    (begun_later n (v.start + 1) v.start vs (omega arith) h.3)
after_one n low (suc k) (v ∷ vs) x h is = after_one n (v.start + 1) k vs x h.3 is

pub first_left : (k : ℕ) (vs : List Window) (x : Window) → slice_get vs k ≡ Some x →
    drop k vs ≡ x ∷ drop (suc k) vs
first_left k [] x is = absurd (let bad : ⊥ = cc in bad)
first_left zero (v ∷ vs) x is = ap (λ u. u ∷ vs) (some_same v x is)
first_left (suc k) (v ∷ vs) x is = first_left k vs x is

-- ---- channels by number

mapped_from : {X : Type 0} (f g : ℕ → X) (low n : ℕ) → ((k : ℕ) → low ≤ k → f k ≡ g k) →
    map f (numbers_from low n) ≡ map g (numbers_from low n)
unfolding numbers_from
mapped_from f g low zero same = refl
mapped_from f g low (suc n) same =
    ap (λ x. x ∷ map f (numbers_from (low + 1) n)) (same low (omega arith))
    ∙ ap (λ xs. g low ∷ xs) (mapped_from f g (low + 1) n (λ k from. same k (omega (arith, from))))

replaced : (f g : ℕ → List Window) (low n i : ℕ) (xs : List Window) → i < n → g (low + i) ≡ xs →
    ((k : ℕ) → k ≢ low + i → f k ≡ g k) →
    without_first (map f (numbers_from low n)) i xs ≡ map g (numbers_from low n)
unfolding numbers_from
replaced f g low zero i xs inside at same = absurd (omega (arith, inside))
replaced f g low (suc n) zero xs inside at same =
    let e : low ≡ low + 0 = omega arith in
    ap (λ ys. ys ∷ map f (numbers_from (low + 1) n)) (sym at ∙ ap g (sym e))
    ∙ ap (λ yss. g low ∷ yss)
    (mapped_from f g (low + 1) n (λ k from. same k (λ bad. omega (arith, from, bad))))
replaced f g low (suc n) (suc i) xs inside at same =
    let e : low + 1 + i ≡ low + suc i = omega arith in
    ap (λ ys. ys ∷ without_first (map f (numbers_from (low + 1) n)) i xs)
    (same low (λ bad. omega (arith, bad)))
    ∙ ap (λ yss. g low ∷ yss)
    (replaced f g (low + 1) n i xs (omega (arith, inside)) (ap g e ∙ at)
    (λ k other. same k (λ bad. other (bad ∙ sym e))))

got_at : {X : Type 0} (f : ℕ → X) (low n i : ℕ) → i < n →
    slice_get (map f (numbers_from low n)) i ≡ Some (f (low + i))
unfolding numbers_from
got_at f low zero i inside = absurd (omega (arith, inside))
got_at f low (suc n) zero inside = let e : low ≡ low + 0 = omega arith in ap (λ k. Some (f k)) e
got_at f low (suc n) (suc i) inside =
    let e : low + 1 + i ≡ low + suc i = omega arith in
    got_at f (low + 1) n i (omega (arith, inside)) ∙ ap (λ k. Some (f k)) e

none_before : (c : ℕ) (x : Window) (g : ℕ → List Window) (low n : ℕ) →
    ((k : ℕ) → low ≤ k → k < low + n → AllByRecursion (IsNotBefore c x k) (g k)) →
    AreNotBefore c x low (map g (numbers_from low n))
unfolding numbers_from
none_before c x g low zero h = tt
none_before c x g low (suc n) h = (
  h low (omega arith) (omega arith),
  none_before c x g (low + 1) n (λ k from below. h k (omega (arith, from)) (omega (arith, below))),
)

same_or_not : (k c : ℕ) → (k ≡ c) ⊎ (k ≢ c)
same_or_not k c = elim (cases_lt k c) [
  | inl less ↦ inr (λ e. omega (arith, less, e))
  | inr back ↦ elim (cases_lt c k) [
    | inl more ↦ inr (λ e. omega (arith, more, e))
    | inr over ↦ inl (omega (arith, back, over))
  ]
]

-- where the first window that is left of channel c is before what is left of the others, it is the next of
-- the
-- merged windows, and what is left after it is the merge of what is left then
pub merge_next : (r : Recorded) (next later : ℕ → ℕ) (m c : ℕ) (x : Window) → IsRecording r →
    c < channel_count r → IsLeft r m next → slice_get (windows_at r c) (next c) ≡ Some x →
    later c ≡ suc (next c) → ((k : ℕ) → k ≢ c → next k ≡ later k) →
    ((k : ℕ) → k < channel_count r → k ≢ c →
    AllByRecursion (IsNotBefore c x k) (drop (next k) (windows_at r k))) →
    drop m (recorded_windows r) ≡ record { channel = c; window = x } ∷ merged_windows (windows_left r later)
merge_next r next later m c x given inside state is step others before =
    let old : ℕ → List Window = λ k. drop (next k) (windows_at r k) in
    let new : ℕ → List Window = λ k. drop (later k) (windows_at r k) in
    let xs = drop (suc (next c)) (windows_at r c) in
    let zero_is : 0 + c ≡ c = omega arith in
    let first : slice_get (windows_left r next) c ≡ Some (x ∷ xs) =
    got_at old 0 (channel_count r) c inside ∙ ap (λ k. Some (old k)) zero_is
    ∙ ap Some (first_left (next c) (windows_at r c) x is) in
    let new_at : new (0 + c) ≡ xs = ap new zero_is ∙ ap (λ n. drop n (windows_at r c)) step in
    let left : without_first (windows_left r next) c xs ≡ windows_left r later =
    replaced old new 0 (channel_count r) c xs inside new_at
    (λ k other. ap (λ n. drop n (windows_at r k)) (others k (λ bad. other (bad ∙ sym zero_is)))) in
    let own : AllByRecursion (IsNotBefore c x c) (new c) =
    subst (λ n. AllByRecursion (IsNotBefore c x c) (drop n (windows_at r c))) (sym step)
    (all_from (λ v. x.start < v.start) (IsNotBefore c x c) (λ v less. inl less) xs
    (after_one (length (samples_at r c)) 0 (next c) (windows_at r c) x (windows_begin r c given) is)) in
    let all_new : (k : ℕ) → 0 ≤ k → k < 0 + channel_count r → AllByRecursion (IsNotBefore c x k) (new k) =
    λ k from below.
    elim (same_or_not k c) [
      | inl e ↦ subst (λ j. AllByRecursion (IsNotBefore c x j) (new j)) (sym e) own
      | inr other ↦ subst (λ n. AllByRecursion (IsNotBefore c x k) (drop n (windows_at r k))) (others k other)
          (before k (omega (arith, below)) other)
    ] in
    state
    ∙ merge_step (windows_left r next) c x xs first
    (subst (AreNotBefore c x 0) (sym left) (none_before c x new 0 (channel_count r) all_new))
    ∙ ap (λ yss. record { channel = c; window = x } ∷ merged_windows yss) left

-- so it is at index m, and m + 1 is where the rest begins
pub next_of_drop : {X : Type 0} (m : ℕ) (xs ys : List X) (x : X) → drop m xs ≡ x ∷ ys →
    (slice_get xs m ≡ Some x) × (drop (m + 1) xs ≡ ys)
next_of_drop m xs ys x e =
    let step : suc m ≡ m + 1 = omega arith in
    let both = go m xs ys e in
    (both.0, sym (ap (λ n. drop n xs) step) ∙ both.1)
  where
    go : (m : ℕ) (xs ys : List _) → drop m xs ≡ x ∷ ys → (slice_get xs m ≡ Some x) × (drop (suc m) xs ≡ ys)
    go zero [] ys e = absurd (let bad : ⊥ = cc in bad)
    go (suc m) [] ys e = absurd (let bad : ⊥ = cc in bad)
    go zero (z ∷ zs) ys e = (ap (λ l. slice_get l 0) e, ap (drop 1) e)
    go (suc m) (z ∷ zs) ys e = go m zs ys e
