-- The channel whose first window left is found to stand first has the next of the merged windows; and where
-- none is found, all that is left begins at the place or later.
use Rattle.std.proofs.Common.{◌≡◌, ◌≢◌, ℕ, suc, ◌+◌, ◌<◌, ◌≤◌, ◌⊎◌, List, ◌∷◌, length, drop, slice_get, slice_index, Some, sym, subst, inl, inr, arith}
use Rattle.std.specs.List.{AllByRecursion}
use Rattle.std.proofs.lemmas.Bool.{cases_lt}
use Rattle.event_detect.specs.declared.limits.Limits.{Limits}
use Rattle.event_detect.specs.declared.window.Window.{Window}
use Rattle.interval_ledger.specs.Earliest.{IsFirstLeast}
use Rattle.interval_ledger.specs.Left.{IsFirstStart, IsLeft, WindowsWait, windows_left}
use Rattle.interval_ledger.proofs.MergeLaws.{merge_next, windows_begin}
use Rattle.interval_ledger.proofs.StopLaws.{windows_from, windows_past, windows_wait}
use Rattle.lanes.specs.Lane.{windows_at}
use Rattle.polyphase.specs.PolyphaseEvent.{merged_windows}
use Rattle.polyphase.proofs.MergeStep.{IsNotBefore}
use Rattle.pq_base.specs.Recorded.{Recorded, IsRecording, samples_at}
use Rattle.pq_sequence.specs.MeasuredRecording.{channel_count, recorded_windows}
use Rattle.settled_laws.proofs.ListLaws.{all_from}

module _ (r : Recorded) (limits : Limits) (given : IsRecording r) (next : ℕ → ℕ) (w until : ℕ)
    (starts : List ℕ) (many : length starts ≡ channel_count r)
    (firsts : (k : ℕ) → k < channel_count r → IsFirstStart r next w starts k) (within : until ≤ w) where
  -- the window that is found
  pub found_window : (c : ℕ) → IsFirstLeast starts until c →
      (x : Window) × (slice_get (windows_at r c) (next c) ≡ Some x) × (slice_index starts c ≡ x.start)
  found_window c first = at (firsts c (subst (λ n. c < n) many first.inside))
    where
      at : IsFirstStart r next w starts c →
          (x : Window) × (slice_get (windows_at r c) (next c) ≡ Some x) × (slice_index starts c ≡ x.start)
      at (inl h) = h
      at (inr h) = let a = first.below in let b = h.1 in absurd (omega (arith, a, b, within))

  -- no window of another channel is before it
  none_before_it : (c : ℕ) (x : Window) → IsFirstLeast starts until c → slice_index starts c ≡ x.start →
      (k : ℕ) → k < channel_count r → k ≢ c →
      AllByRecursion (IsNotBefore c x k) (drop (next k) (windows_at r k))
  none_before_it c x first is k inside other = at (firsts k inside)
    where
      below : x.start < until
      below = let a = first.below in omega (arith, a, is)

      from_more : (v : Window) → x.start + 1 ≤ v.start → IsNotBefore c x k v
      from_more v h = inl (omega (arith, h))

      from_same : c < k → (v : Window) → x.start ≤ v.start → IsNotBefore c x k v
      from_same after v h = elim (cases_lt x.start v.start) [
        | inl less ↦ inl less
        | inr back ↦ inr (omega (arith, h, back), after)
      ]

      later : (y : Window) → slice_get (windows_at r k) (next k) ≡ Some y → slice_index starts k ≡ y.start →
          (k < c) ⊎ (c < k) → AllByRecursion (IsNotBefore c x k) (drop (next k) (windows_at r k))
      later y at start (inl less) =
          let a = first.earlier k less in
          all_from (λ v. x.start + 1 ≤ v.start) (IsNotBefore c x k) from_more (drop (next k) (windows_at r k))
          (windows_from (length (samples_at r k)) 0 (next k) (x.start + 1) (windows_at r k) y
          (windows_begin r k given) at (omega (arith, a, is, start)))
      later y at start (inr more) =
          let a = first.later k more (subst (λ n. k < n) (sym many) inside) in
          all_from (λ v. x.start ≤ v.start) (IsNotBefore c x k) (from_same more)
          (drop (next k) (windows_at r k))
          (windows_from (length (samples_at r k)) 0 (next k) x.start (windows_at r k) y
          (windows_begin r k given) at (omega (arith, a, is, start)))

      side : (k < c) ⊎ (c < k)
      side = elim (cases_lt k c) [
        | inl less ↦ inl less
        | inr back ↦ elim (cases_lt c k) [
          | inl more ↦ inr more
          | inr over ↦ absurd (other (omega (arith, back, over)))
        ]
      ]

      at : IsFirstStart r next w starts k →
          AllByRecursion (IsNotBefore c x k) (drop (next k) (windows_at r k))
      at (inl h) = later h.0 h.1 h.2 side
      at (inr h) =
          all_from (λ v. w ≤ v.start) (IsNotBefore c x k)
          (λ v far. from_more v (omega (arith, far, below, within))) (drop (next k) (windows_at r k))
          (windows_past r limits given k (next k) w inside h.0)

  -- it is the next of the merged windows
  pub earliest_next : (later : ℕ → ℕ) (m c : ℕ) (first : IsFirstLeast starts until c) → IsLeft r m next →
      later c ≡ suc (next c) → ((k : ℕ) → k ≢ c → next k ≡ later k) →
      drop m (recorded_windows r)
      ≡ record { channel = c; window = (found_window c first).0 } ∷ merged_windows (windows_left r later)
  earliest_next later m c first state step others =
      let found = found_window c first in
      merge_next r next later m c found.0 given (subst (λ n. c < n) many first.inside) state found.1 step
      others (none_before_it c found.0 first found.2)

  -- where none is found, what is left begins at the place or later
  pub none_earliest : (m : ℕ) → IsLeft r m next →
      ((k : ℕ) → k < length starts → until ≤ slice_index starts k) →
      AllByRecursion (λ x. until ≤ x.window.start) (drop m (recorded_windows r))
  none_earliest m state none =
      windows_wait r limits given m until next state (λ c inside. at c inside (firsts c inside))
    where
      at : (c : ℕ) → c < channel_count r → IsFirstStart r next w starts c → WindowsWait r c (next c) until
      at c inside (inl h) =
          let a = none c (subst (λ n. c < n) (sym many) inside) in
          let b = h.2 in
          inr (h.0, h.1, omega (arith, a, b))
      at c inside (inr h) = let a = h.0 in inl (omega (arith, a, within))
