-- The order of merged windows is a total order, and only equal ones tie. So a sort gives the merged windows.
use Rattle.std.proofs.Common.{◌≡◌, ℕ, List, ◌∙◌, ap, refl, Less, Equal, Greater, IsPermutation, IsSorted}
use Rattle.std.specs.declared.cmp.Ordering.{Ordering}
use Rattle.std.specs.Ordering.{nat_cmp, ordering_then}
use Rattle.std.specs.Cmp.{IsTotalOrder, nat_cmp_total, on_total, then_total}
use Rattle.std.specs.FinMap.{IsAntisymmetric, nat_cmp-IsAntisymmetric}
use Rattle.event_detect.specs.declared.window.Window.{Window}
use Rattle.polyphase.specs.PolyphaseEvent.{ChannelWindow, joined_from, merged_cmp, merged_windows}
use Rattle.pq_words.specs.Sorted.{in_order}
use Rattle.pq_words.proofs.SortedLaws.{sorted_once}

pub merged_cmp_total : IsTotalOrder merged_cmp
merged_cmp_total =
    then_total (on_total (λ m. m.window.start) nat_cmp_total)
    (then_total (on_total (λ m. m.channel) nat_cmp_total)
    (then_total (on_total (λ m. m.window.end) nat_cmp_total) (on_total (λ m. m.window.value) nat_cmp_total)))

both_equal : (r s : Ordering) → ordering_then r s ≡ Equal → (r ≡ Equal) × (s ≡ Equal)
both_equal Less s e = absurd (let bad : ⊥ = cc in bad)
both_equal Equal s e = (refl, e)
both_equal Greater s e = absurd (let bad : ⊥ = cc in bad)

pub merged_cmp_same : IsAntisymmetric merged_cmp
merged_cmp_same a b e =
    let v = a.window in
    let w = b.window in
    let by_value = ordering_then (nat_cmp v.end w.end) (nat_cmp v.value w.value) in
    let by_start = both_equal (nat_cmp v.start w.start)
    (ordering_then (nat_cmp a.channel b.channel) by_value) e in
    let by_channel = both_equal (nat_cmp a.channel b.channel) by_value by_start.1 in
    let by_end = both_equal (nat_cmp v.end w.end) (nat_cmp v.value w.value) by_channel.1 in
    let made : ℕ → ℕ → ℕ → ℕ → ChannelWindow = λ start channel end value.
    record { channel = channel; window = record { start = start; end = end; value = value } } in
    ap (λ x. made x a.channel v.end v.value) (nat_cmp-IsAntisymmetric v.start w.start by_start.0)
    ∙ ap (λ x. made w.start x v.end v.value) (nat_cmp-IsAntisymmetric a.channel b.channel by_channel.0)
    ∙ ap (λ x. made w.start b.channel x v.value) (nat_cmp-IsAntisymmetric v.end w.end by_end.0)
    ∙ ap (λ x. made w.start b.channel w.end x) (nat_cmp-IsAntisymmetric v.value w.value by_end.1)

-- what a sort of std leaves of the channels' windows is the merged windows
pub sorted_merged : (channels : List (List Window)) (new : List ChannelWindow)
    → IsPermutation (joined_from 0 channels) new → IsSorted merged_cmp new → new ≡ merged_windows channels
unfolding merged_windows
sorted_merged channels new moved up =
    sorted_once merged_cmp merged_cmp_total merged_cmp_same (joined_from 0 channels) new moved up
