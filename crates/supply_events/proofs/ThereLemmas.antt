-- Each of the merged windows is of one of the channels.
use Rattle.std.proofs.Common.{ℕ, ◌+◌, ◌<◌, ◌≤◌, List, [], ◌∷◌, length, All, arith}
use Rattle.std.proofs.lemmas.List.Elements.{All-append, All-map, All-nil}
use Rattle.std.proofs.lemmas.List.Sorted.{All-permutation}
use Rattle.event_detect.specs.declared.window.Window.{Window}
use Rattle.polyphase.specs.PolyphaseEvent.{ChannelWindow, joined_from, merged_cmp, merged_windows, of_channel}
use Rattle.pq_words.proofs.SortedLaws.{in_order_permutes}

joined_there : (count low : ℕ) (channels : List (List Window)) → low + length channels ≤ count →
    All (λ m. m.channel < count) (joined_from low channels)
joined_there count low [] fits = All-nil (λ (m : ChannelWindow). m.channel < count)
joined_there count low (ws ∷ channels) fits =
    All-append (λ (m : ChannelWindow). m.channel < count) (of_channel low ws) (joined_from (low + 1) channels)
    (All-map (λ (m : ChannelWindow). m.channel < count) (λ w. record { channel = low; window = w }) ws
    (λ k d inside. omega (arith, fits)))
    (joined_there count (low + 1) channels (omega (arith, fits)))

pub merged_there : (channels : List (List Window)) →
    All (λ m. m.channel < length channels) (merged_windows channels)
unfolding merged_windows
merged_there channels =
    All-permutation (λ (m : ChannelWindow). m.channel < length channels) (joined_from 0 channels)
    (merged_windows channels) (in_order_permutes merged_cmp (joined_from 0 channels))
    (joined_there (length channels) 0 channels (omega arith))
