-- The merged windows of a recording, and where they lie.
use Rattle.std.proofs.Common.{ℕ, ◌+◌, ◌<◌, ◌≤◌, List, [], ◌∷◌, length, All, subst, arith}
use Rattle.std.proofs.lemmas.List.{length-map}
use Rattle.std.proofs.lemmas.List.Elements.{All-append, All-from_get_or, All-head, All-map, All-nil, All-tail}
use Rattle.std.proofs.lemmas.List.Sorted.{All-permutation}
use Rattle.event_detect.specs.declared.window.Window.{Window}
use Rattle.half_cycle.proofs.WindowBounds.{windows_lie}
use Rattle.polyphase.specs.PolyphaseEvent.{ChannelWindow, joined_from, merged_cmp, merged_windows, of_channel}
use Rattle.pq_base.specs.Recorded.{Recorded, IsRecording, sample_count, samples_at}
use Rattle.pq_sequence.specs.MeasuredRecording.{channel_windows, recorded_rule, recorded_windows, windows_by_channel}
use Rattle.pq_words.proofs.SortedLaws.{in_order_permutes}
use Rattle.zero_cross.specs.Boundary.{IsRule}

-- ---- where they lie

-- a window of one of so many channels, in the first n places
abbrev pub IsWindowIn : ℕ → ℕ → ChannelWindow → Type 0
IsWindowIn channels n m = (m.window.start ≤ n) × (m.window.end ≤ n) × (m.channel < channels)

-- windows of a channel that end in the first n places
abbrev Lie : ℕ → List Window → Type 0
Lie n ws = All (λ w. (w.start < w.end) × (w.end < n)) ws

joined_in : (channels n low : ℕ) (xs : List (List Window)) → low + length xs ≤ channels → All (Lie n) xs →
    All (IsWindowIn channels n) (joined_from low xs)
joined_in channels n low [] fits lie = All-nil (IsWindowIn channels n)
joined_in channels n low (ws ∷ xs) fits lie =
    All-append (IsWindowIn channels n) (of_channel low ws) (joined_from (low + 1) xs)
    (All-map (IsWindowIn channels n) (λ w. record { channel = low; window = w }) ws
    (λ k d inside. let both = All-head (Lie n) ws xs lie k d inside in (
      omega (arith, both.0, both.1),
      omega (arith, both.1),
      omega (arith, fits),
    )))
    (joined_in channels n (low + 1) xs (omega (arith, fits)) (All-tail (Lie n) ws xs lie))

merged_in : (channels n : ℕ) (xs : List (List Window)) → length xs ≤ channels → All (Lie n) xs →
    All (IsWindowIn channels n) (merged_windows xs)
unfolding merged_windows
merged_in channels n xs fits lie =
    All-permutation (IsWindowIn channels n) (joined_from 0 xs) (merged_windows xs)
    (in_order_permutes merged_cmp (joined_from 0 xs))
    (joined_in channels n 0 xs (omega (arith, fits)) lie)

-- the windows of a recording lie in it
pub recorded_in : (r : Recorded) → IsRecording r → IsRule (recorded_rule r) →
    All (IsWindowIn (length r.numbers) (sample_count r)) (recorded_windows r)
recorded_in r is rule =
    let n = sample_count r in
    let lies : (k : ℕ) → k < length r.samples → Lie n (channel_windows r (samples_at r k)) = λ k inside.
    subst (λ count. Lie count (channel_windows r (samples_at r k))) (is.even k inside)
    (windows_lie (samples_at r k) (recorded_rule r) rule) in
    merged_in (length r.numbers) n (windows_by_channel r)
    (omega (arith, length-map r.samples (channel_windows r), is.paired))
    (All-map (Lie n) (channel_windows r) r.samples
    (All-from_get_or (λ samples. Lie n (channel_windows r samples)) r.samples [] lies))
