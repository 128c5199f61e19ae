-- The subject: dips, swells (5.4) and interruptions (5.5) over all channels. The order of the merged windows
-- is profile.
-- Sections are those of IEC 61000-4-30:2015; "profile" marks a choice of this project.
use Rattle.std.specs.Prelude.{◌≡◌, ℕ, ◌+◌, ◌≤◌, Bool, true, false, ◌==◌, List, [], ◌∷◌, ◌++◌, map, take, reverse, find, flat_map, Option, None, Some, option_map, option_to_list}
use Rattle.std.specs.List.{list_any, list_all, enumerate_from}
use Rattle.std.specs.Ordering.{nat_cmp, ordering_then}
use Rattle.std.specs.declared.cmp.Ordering.{Ordering}
use Rattle.event_detect.specs.declared.event.Event.{Event}
use Rattle.event_detect.specs.declared.kind.Kind.{Kind}
use Rattle.event_detect.specs.declared.kind.Kind.TheVariants.{Dip, Swell, Interruption}
use Rattle.event_detect.specs.declared.limits.Class.{Class}
use Rattle.event_detect.specs.declared.limits.Limits.{Limits}
use Rattle.event_detect.specs.declared.window.Window.{Window}
use Rattle.event_detect.specs.Threshold.{class_of}
use Rattle.event_detect.specs.VoltageEvent.{Condition, events, ended_events}
use Rattle.pq_words.specs.declared.limits.TheConstants.{MOST_SELECTED}
use Rattle.pq_words.specs.Steps.{numbers_below}
use Rattle.pq_words.specs.Sorted.{in_order}

-- how many channels there may be (profile)
abbrev pub IsChannelCount : ℕ → Type 0
IsChannelCount channels = (1 ≤ channels) × (channels ≤ MOST_SELECTED)

-- a window of a channel, which is a position among the selected channels
pub record ChannelWindow : Type 0 where
  pub channel : ℕ
  pub window : Window

-- by the window's start, and then by channel; ties, which one recording does not have, by end and value
-- (profile)
abbrev pub merged_cmp : ChannelWindow → ChannelWindow → Ordering
merged_cmp a b =
    ordering_then (nat_cmp a.window.start b.window.start)
    (ordering_then (nat_cmp a.channel b.channel)
    (ordering_then (nat_cmp a.window.end b.window.end) (nat_cmp a.window.value b.window.value)))

-- the windows of a channel, each with the channel
abbrev pub of_channel : ℕ → List Window → List ChannelWindow
of_channel channel windows = map (λ w. record { channel = channel; window = w }) windows

-- the windows of the channels from a position on, channel after channel
abbrev pub joined_from : ℕ → List (List Window) → List ChannelWindow
joined_from position channels = flat_map (λ p. of_channel p.0 p.1) (enumerate_from position channels)

-- the merged windows: those of all channels, by start and then by channel (profile)
unfoldable pub merged_windows : List (List Window) → List ChannelWindow
merged_windows channels = in_order merged_cmp (joined_from 0 channels)

-- the latest value of a channel after the first j of the merged windows, or None before its first
unfoldable pub latest : List ChannelWindow → ℕ → ℕ → Option ℕ
latest merged j channel =
    option_map (λ m. m.window.value) (find (λ m. m.channel == channel) (reverse (take j merged)))

-- the latest value of each channel
abbrev pub latest_values : ℕ → List ChannelWindow → ℕ → List (Option ℕ)
latest_values channels merged j = map (latest merged j) (numbers_below channels)

-- a value of this class is past the threshold at which an event of the kind begins
abbrev pub is_past : Kind → Class → Bool
is_past Dip class = class.below_dip
is_past Swell class = class.above_swell
is_past Interruption class = class.below_interruption

-- it is back by the hysteresis, as where an event of the kind ends
abbrev pub is_back : Kind → Class → Bool
is_back Dip class = class.clear_dip
is_back Swell class = class.clear_swell
is_back Interruption class = class.clear_interruption

-- the value is there and passes
abbrev pub is_there_and : (ℕ → Bool) → Option ℕ → Bool
is_there_and test None = false
is_there_and test (Some v) = test v

-- the value passes if it is there
abbrev pub passes_if_there : (ℕ → Bool) → Option ℕ → Bool
passes_if_there test None = true
passes_if_there test (Some v) = test v

abbrev pub value_is_past : Kind → Limits → ℕ → Bool
value_is_past kind limits v = is_past kind (class_of limits v)

abbrev pub value_is_back : Kind → Limits → ℕ → Bool
value_is_back kind limits v = is_back kind (class_of limits v)

-- an event begins: a dip or a swell where some channel's latest value is past the threshold (5.4), an
-- interruption where every channel has one and all are past it (5.5)
unfoldable pub begins : Kind → Limits → List (Option ℕ) → Bool
begins Dip limits values = list_any (is_there_and (value_is_past Dip limits)) values
begins Swell limits values = list_any (is_there_and (value_is_past Swell limits)) values
begins Interruption limits values = list_all (is_there_and (value_is_past Interruption limits)) values

-- an event ends: a dip or a swell where every channel that has a latest value is back (5.4), an interruption
-- where some channel is (5.5)
unfoldable pub ends : Kind → Limits → List (Option ℕ) → Bool
ends Dip limits values = list_all (passes_if_there (value_is_back Dip limits)) values
ends Swell limits values = list_all (passes_if_there (value_is_back Swell limits)) values
ends Interruption limits values = list_any (is_there_and (value_is_back Interruption limits)) values

-- what the latest values tell of a kind at a window
abbrev pub condition_over : Kind → Limits → List (Option ℕ) → ChannelWindow → Condition
condition_over kind limits values m = record {
  begins = begins kind limits values;
  ends = ends kind limits values;
  channel = m.channel;
  window = m.window;
}

-- what is told at index j of the merged windows, which has the window m: the latest values are those after it
abbrev pub condition_at : Kind → Limits → ℕ → List ChannelWindow → ℕ → ChannelWindow → Condition
condition_at kind limits channels merged j m =
    condition_over kind limits (latest_values channels merged (j + 1)) m

-- the same at each index
unfoldable pub conditions : Kind → Limits → ℕ → List ChannelWindow → List Condition
conditions kind limits channels merged =
    map (λ p. condition_at kind limits channels merged p.0 p.1) (enumerate_from 0 merged)

-- the events of a kind over the merged windows of so many channels, open at n where one does not end
abbrev pub polyphase_events : Kind → Limits → ℕ → ℕ → List ChannelWindow → List Event
polyphase_events kind limits channels n merged = events kind n (conditions kind limits channels merged)

-- the kinds in order
abbrev pub kinds : List Kind
kinds = Dip ∷ Swell ∷ Interruption ∷ []

-- the events of all kinds
unfoldable pub all_polyphase_events : Limits → ℕ → ℕ → List ChannelWindow → List Event
all_polyphase_events limits channels n merged =
    flat_map (λ kind. polyphase_events kind limits channels n merged) kinds

-- one more of the merged windows ends an event of the kind, or none
abbrev pub EndsAtWindow : Kind → Limits → ℕ → List ChannelWindow → ChannelWindow → Option Event → Type 0
EndsAtWindow kind limits channels fed m answer =
    ended_events kind (conditions kind limits channels (fed ++ m ∷ []))
    ≡ ended_events kind (conditions kind limits channels fed) ++ option_to_list answer
