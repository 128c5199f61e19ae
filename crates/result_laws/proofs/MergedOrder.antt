-- The merged windows of a recording: each stands before the later ones, and those of one channel start one
-- after another.
use Rattle.std.proofs.Common.{◌≡◌, ℕ, ◌+◌, ◌<◌, ◌≤◌, Bool, true, false, List, [], ◌∷◌, map, sym, ◌∙◌, ap, inl, inr, arith, Less}
use Rattle.std.specs.Cmp.{IsStrictWeakOrder, nat_cmp_is}
use Rattle.std.specs.List.{AllByRecursion}
use Rattle.std.specs.Ordering.{is_lt, nat_cmp, ordering_then}
use Rattle.std.proofs.lemmas.Bool.{cases_lt}
use Rattle.std.proofs.lemmas.List.Kept.{AllPairs-from_increasing}
use Rattle.std.proofs.lemmas.List.Sorted.{ranks_by}
use Rattle.event_detect.specs.declared.window.Window.{Window}
use Rattle.half_cycle.proofs.WindowBounds.{windows_rise}
use Rattle.polyphase.specs.PolyphaseEvent.{ChannelWindow, joined_from, merged_cmp, merged_windows, of_channel}
use Rattle.polyphase.proofs.MergedLaws.{merged_cmp_total}
use Rattle.pq_base.specs.Recorded.{Recorded, IsRecording}
use Rattle.pq_sequence.specs.MeasuredRecording.{channel_windows, recorded_rule, recorded_windows, windows_by_channel}
use Rattle.pq_words.proofs.SortedLaws.{Rising, in_order_rises}
use Rattle.result_laws.proofs.BasicRuns.{rule_of_recording}
use Rattle.result_laws.proofs.EventStarts.{IsBefore}
use Rattle.result_laws.proofs.PairLaws.{Pairwise, all_append, all_each, all_map, all_weaker, pairs_pairwise, pairwise_append, pairwise_both, pairwise_in_order, pairwise_map, pairwise_unmap, pairwise_weaker}

-- ---- in order

rising_pairs : {X : Type 0} (lt : X → X → Bool) (xs : List X) → Rising lt xs →
    Pairwise (λ x y. lt y x ≡ false) xs
rising_pairs lt [] h = tt
rising_pairs lt (x ∷ xs) h = (h.0, rising_pairs lt xs h.1)

-- what starts earlier stands before
earlier_start : (a b : ChannelWindow) → a.window.start < b.window.start → is_lt (merged_cmp a b) ≡ true
earlier_start a b less =
    let v = a.window in
    let w = b.window in
    let rest = ordering_then (nat_cmp a.channel b.channel)
    (ordering_then (nat_cmp v.end w.end) (nat_cmp v.value w.value)) in
    sym (ap (λ o. is_lt (ordering_then o rest)) (nat_cmp_is v.start w.start Less less))

starts_order : (a b : ChannelWindow) → is_lt (merged_cmp b a) ≡ false → a.window.start ≤ b.window.start
starts_order a b not_before = elim (cases_lt b.window.start a.window.start) [
  | inl less ↦ absurd (let both : true ≡ false = sym (earlier_start b a less) ∙ not_before in
      let bad : ⊥ = cc in bad)
  | inr from ↦ from
]

-- ---- apart

-- two windows of one channel do not start together
abbrev StartApart : ChannelWindow → ChannelWindow → Type 0
StartApart a b = a.channel ≡ b.channel → a.window.start ≡ b.window.start → ⊥

channels_above : (low least : ℕ) (xs : List (List Window)) → least ≤ low →
    AllByRecursion (λ m. least ≤ m.channel) (joined_from low xs)
channels_above low least [] from = tt
channels_above low least (ws ∷ xs) from =
    all_append (λ m. least ≤ m.channel) (of_channel low ws) (joined_from (low + 1) xs)
    (all_map (λ m. least ≤ m.channel) (λ w. record { channel = low; window = w }) ws
    (all_each (λ w. least ≤ low) (λ w. from) ws))
    (channels_above (low + 1) least xs (omega (arith, from)))

-- windows that start one after another
abbrev Rise : List Window → Type 0
Rise ws = Pairwise (λ v w. v.start < w.start) ws

joined_apart : (low : ℕ) (xs : List (List Window)) → AllByRecursion Rise xs →
    Pairwise StartApart (joined_from low xs)
joined_apart low [] rise = tt
joined_apart low (ws ∷ xs) rise =
    let made : Window → ChannelWindow = λ w. record { channel = low; window = w } in
    pairwise_append StartApart (of_channel low ws) (joined_from (low + 1) xs)
    (pairwise_map StartApart made ws
    (pairwise_weaker (λ v w. v.start < w.start) (λ v w. StartApart (made v) (made w))
    (λ v w less same starts. omega (arith, less, starts)) ws rise.0))
    (joined_apart (low + 1) xs rise.1)
    (all_map (λ m. AllByRecursion (StartApart m) (joined_from (low + 1) xs)) made ws
    (all_each (λ w. AllByRecursion (StartApart (made w)) (joined_from (low + 1) xs))
    (λ w. all_weaker (λ m. low + 1 ≤ m.channel) (StartApart (made w))
    (λ m above same starts. omega (arith, above, same))
    (joined_from (low + 1) xs) (channels_above (low + 1) (low + 1) xs (omega arith))) ws))

merged_before : (xs : List (List Window)) → AllByRecursion Rise xs → Pairwise IsBefore (merged_windows xs)
unfolding merged_windows
merged_before xs rise =
    let weak : IsStrictWeakOrder (λ x y. is_lt (merged_cmp x y)) = ranks_by merged_cmp_total (λ x. x) in
    pairwise_both (λ a b. a.window.start ≤ b.window.start) StartApart IsBefore
    (λ a b order apart. record {
      order = order;
      strict = λ same. strictly a b order (apart same);
    })
    (merged_windows xs)
    (pairwise_weaker (λ a b. is_lt (merged_cmp b a) ≡ false) (λ a b. a.window.start ≤ b.window.start)
    starts_order
    (merged_windows xs)
    (rising_pairs (λ x y. is_lt (merged_cmp x y)) (merged_windows xs)
    (in_order_rises merged_cmp weak (joined_from 0 xs))))
    (pairwise_in_order merged_cmp StartApart (λ a b apart same starts. apart (sym same) (sym starts))
    (joined_from 0 xs) (joined_apart 0 xs rise))
  where
    strictly : (a b : ChannelWindow) → a.window.start ≤ b.window.start →
        (a.window.start ≡ b.window.start → ⊥) → a.window.start < b.window.start
    strictly a b order apart = elim (cases_lt a.window.start b.window.start) [
      | inl less ↦ less
      | inr back ↦ absurd (apart (omega (arith, order, back)))
    ]

pub recorded_before : (r : Recorded) → IsRecording r → Pairwise IsBefore (recorded_windows r)
recorded_before r is =
    merged_before (windows_by_channel r)
    (all_map Rise (channel_windows r) r.samples
    (all_each (λ samples. Rise (channel_windows r samples))
    (λ samples.
    pairwise_unmap (λ (a b : ℕ). a < b) (λ (w : Window). w.start) (channel_windows r samples)
    (pairs_pairwise (λ (a b : ℕ). a < b) (map (λ (w : Window). w.start) (channel_windows r samples))
    (AllPairs-from_increasing (map (λ (w : Window). w.start) (channel_windows r samples))
    (windows_rise samples (recorded_rule r) (rule_of_recording r is)))))
    r.samples))
