-- The subject: which of several channels has the window that starts first. All of it is profile.
use Rattle.std.specs.Prelude.{◌≡◌, ◌⊎◌, [], ◌∷◌, ℕ, ◌<◌, ◌≤◌, List, length, map, MatchOption, Option, None, Some, option_map, option_and_then, slice_get, ◌+◌}
use Rattle.std.specs.List.Sorted.{IsStrictlyIncreasing}
use Rattle.event_detect.specs.declared.window.Window.{Window}
use Rattle.polyphase.specs.PolyphaseEvent.{ChannelWindow, merged_windows}

-- windows of which each starts after those before it
abbrev pub Rise : List Window → Type 0
Rise windows = IsStrictlyIncreasing (map (λ w. w.start) windows)

-- where the first of some windows starts, if there is one
abbrev pub start_of_first : List Window → Option ℕ
start_of_first windows = option_map (λ w. w.start) (slice_get windows 0)

-- so of the windows of the channel at a position
abbrev pub first_start : List (List Window) → ℕ → Option ℕ
first_start channels i = option_and_then start_of_first (slice_get channels i)

-- none of the first n channels has a window
abbrev pub AreOver : List (List Window) → ℕ → Type 0
AreOver channels n = (k : ℕ) → k < n → first_start channels k ≡ None

-- of the first n channels, the one at position i has the window that starts first, and is the first of those
-- whose windows start there
pub record IsLeastFirst (channels : List (List Window)) (n i start : ℕ) : Type 0 where
  pub inside : i < n
  pub is_start : first_start channels i ≡ Some start
  pub least : (k s : ℕ) → k < n → first_start channels k ≡ Some s → (start < s) ⊎ ((start ≡ s) × (i ≤ k))

-- what was found among the first n channels: a position and a start, or that none has a window
abbrev pub IsEarliest : List (List Window) → ℕ → Option (ℕ × ℕ) → Type 0
IsEarliest channels n found = MatchOption found (AreOver channels n) (λ f. IsLeastFirst channels n f.0 f.1)

-- whatever the channels are of which this was found, and where the windows of the next one start, that is
-- found among it and those before
abbrev pub TakesEarlier : ℕ → Option (ℕ × ℕ) → Option ℕ → Option (ℕ × ℕ) → Type 0
TakesEarlier i found start now = (channels : List (List Window)) → IsEarliest channels i found
    → first_start channels i ≡ start → IsEarliest channels (i + 1) now

-- the same of all channels, by the position alone
abbrev pub IsNext : List (List Window) → Option ℕ → Type 0
IsNext channels found =
    MatchOption found (AreOver channels (length channels))
    (λ i. (start : ℕ) × IsLeastFirst channels (length channels) i start)

-- the first of the merged windows was taken off its channel, or there was none
abbrev pub TakesNext : List (List Window) → List (List Window) → Option ChannelWindow → Type 0
TakesNext old new taken =
    MatchOption taken ((merged_windows old ≡ []) × (merged_windows new ≡ []))
    (λ m. merged_windows old ≡ m ∷ merged_windows new)
