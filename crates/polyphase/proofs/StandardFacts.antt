-- Worked values, so that a wrong rule in the specs does not check.
use Rattle.std.proofs.Common.{◌≡◌, ◌+◌, ℕ, List, [], ◌∷◌, map, Some, None, true, false, refl}
use Rattle.event_detect.specs.declared.event.Event.{Event}
use Rattle.event_detect.specs.declared.kind.Kind.TheVariants.{Dip, Swell, Interruption}
use Rattle.event_detect.specs.declared.limits.Limits.{Limits}
use Rattle.event_detect.specs.declared.window.Window.{Window}
use Rattle.event_detect.specs.Threshold.{class_of}
use Rattle.event_detect.specs.VoltageEvent.{event_from, extents, event_over, events}
use Rattle.polyphase.specs.PolyphaseEvent.{ChannelWindow, merged_windows, latest, latest_values, begins, ends, conditions, polyphase_events, all_polyphase_events}
use Rattle.pq_words.specs.First.{first_of, first_between}
use Rattle.pq_words.specs.Successors.{successors}
use Rattle.pq_words.specs.Sorted.{put_in_order, in_order}
use Rattle.pq_words.specs.Steps.{numbers_from}

-- limits of 230 V in whole volts
abbrev volts : Limits
volts = record {
  dip = 207;
  dip_end = 212;
  swell = 253;
  swell_end = 248;
  interruption = 12;
  interruption_end = 16;
}

-- a window of so many samples, and one of a cycle at 1200 Hz
abbrev window_of : ℕ → ℕ → ℕ → Window
window_of samples start value = record { start = start; end = start + samples; value = value }

abbrev window : ℕ → ℕ → Window
window start value = window_of 24 start value

-- ---- dips

-- two channels: the first low in two windows, the second a window later and in the band of hysteresis after
-- it
abbrev second_in_hysteresis : List ChannelWindow
second_in_hysteresis = merged_windows (
    (window 0 230 ∷ window 12 200 ∷ window 24 190 ∷ window 36 230 ∷ window 48 230 ∷ []) ∷
    (window 4 230 ∷ window 16 230 ∷ window 28 205 ∷ window 40 209 ∷ window 52 213 ∷ []) ∷ [])

-- by start, and then by channel
pub known_order : map (λ m. m.window.start) second_in_hysteresis
    ≡ 0 ∷ 4 ∷ 12 ∷ 16 ∷ 24 ∷ 28 ∷ 36 ∷ 40 ∷ 48 ∷ 52 ∷ []
unfolding merged_windows in_order put_in_order
known_order = refl

-- windows that start at one place, by channel, whichever ends first
pub known_ties : map (λ m. m.channel) (merged_windows (
    (window_of 24 0 230 ∷ window_of 24 12 230 ∷ []) ∷ (window_of 20 0 230 ∷ window_of 20 12 230 ∷ []) ∷ []))
    ≡ 0 ∷ 1 ∷ 0 ∷ 1 ∷ []
unfolding merged_windows in_order put_in_order
known_ties = refl

-- a channel has no latest value before its first window
pub known_latest : (latest_values 2 second_in_hysteresis 1 ≡ Some 230 ∷ None ∷ [])
    × (latest_values 2 second_in_hysteresis 6 ≡ Some 190 ∷ Some 205 ∷ [])
unfolding latest merged_windows in_order put_in_order numbers_from
known_latest = (refl, refl)

-- one dip, held by the second channel until it is back by the hysteresis; the first channel had the least
-- value
pub known_dip : polyphase_events Dip volts 2 100 second_in_hysteresis
    ≡ record { kind = Dip; start = 12; end = 76; channel = 0; value = 190; is_open = false } ∷ []
unfolding conditions begins ends class_of latest events extents event_from event_over successors
    first_between first_of merged_windows in_order put_in_order numbers_from
known_dip = refl

-- the second channel's windows are shorter: in order of their ends there would be a dip of its own before
-- this one
pub known_by_start : polyphase_events Dip volts 2 100 (merged_windows (
    (window 20 190 ∷ window 32 230 ∷ []) ∷ (window_of 10 24 190 ∷ window_of 10 29 230 ∷ []) ∷ []))
    ≡ record { kind = Dip; start = 20; end = 56; channel = 0; value = 190; is_open = false } ∷ []
unfolding conditions begins ends class_of latest events extents event_from event_over successors
    first_between first_of merged_windows in_order put_in_order numbers_from
known_by_start = refl

-- two channels with the same value: the first in order has it
pub known_first_of_equals : polyphase_events Dip volts 2 100 (merged_windows (
    (window 4 200 ∷ []) ∷ (window 0 200 ∷ []) ∷ []))
    ≡ record { kind = Dip; start = 0; end = 100; channel = 1; value = 200; is_open = true } ∷ []
unfolding conditions begins ends class_of latest events extents event_from event_over successors
    first_between first_of merged_windows in_order put_in_order numbers_from
known_first_of_equals = refl

-- ---- swells

-- one swell, with the greatest value and its channel
pub known_swell : polyphase_events Swell volts 2 100 (merged_windows (
    (window 0 254 ∷ window 12 240 ∷ []) ∷ (window 4 260 ∷ window 16 248 ∷ []) ∷ []))
    ≡ record { kind = Swell; start = 0; end = 40; channel = 1; value = 260; is_open = false } ∷ []
unfolding conditions begins ends class_of latest events extents event_from event_over successors
    first_between first_of merged_windows in_order put_in_order numbers_from
known_swell = refl

-- ---- interruptions

-- it begins where the last of three channels falls, and ends where the first is back
pub known_interruption : polyphase_events Interruption volts 3 100 (merged_windows (
    (window 0 230 ∷ window 12 5 ∷ window 24 5 ∷ window 36 230 ∷ []) ∷
    (window 0 230 ∷ window 12 230 ∷ window 24 4 ∷ window 36 4 ∷ []) ∷
    (window 0 230 ∷ window 12 3 ∷ window 24 3 ∷ window 36 3 ∷ []) ∷ []))
    ≡ record { kind = Interruption; start = 24; end = 60; channel = 2; value = 3; is_open = false } ∷ []
unfolding conditions begins ends class_of latest events extents event_from event_over successors
    first_between first_of merged_windows in_order put_in_order numbers_from
known_interruption = refl

-- none begins before every channel has a value
pub known_late_channel : polyphase_events Interruption volts 2 100 (merged_windows (
    (window 0 5 ∷ window 12 5 ∷ window 24 230 ∷ []) ∷ (window 20 5 ∷ []) ∷ []))
    ≡ record { kind = Interruption; start = 20; end = 48; channel = 1; value = 5; is_open = false } ∷ []
unfolding conditions begins ends class_of latest events extents event_from event_over successors
    first_between first_of merged_windows in_order put_in_order numbers_from
known_late_channel = refl

-- ---- where events begin and end

-- an interruption needs every channel's value: none while a channel has none, and none while one is at the
-- threshold; a channel without a value holds no dip
pub known_begins : (begins Interruption volts (Some 5 ∷ None ∷ []) ≡ false)
    × (begins Interruption volts (Some 5 ∷ Some 11 ∷ []) ≡ true)
    × (begins Interruption volts (Some 5 ∷ Some 12 ∷ []) ≡ false)
    × (begins Dip volts (Some 207 ∷ None ∷ []) ≡ false) × (begins Dip volts (Some 230 ∷ Some 206 ∷ []) ≡ true)
    × (begins Swell volts (Some 253 ∷ None ∷ []) ≡ false) × (begins Swell volts (Some 254 ∷ None ∷ []) ≡ true)
unfolding begins class_of
known_begins = (refl, refl, refl, refl, refl, refl, refl)

pub known_ends : (ends Interruption volts (Some 5 ∷ Some 16 ∷ []) ≡ true)
    × (ends Interruption volts (Some 15 ∷ Some 15 ∷ []) ≡ false)
    × (ends Dip volts (Some 212 ∷ None ∷ []) ≡ true) × (ends Dip volts (Some 230 ∷ Some 211 ∷ []) ≡ false)
    × (ends Swell volts (Some 248 ∷ None ∷ []) ≡ true) × (ends Swell volts (Some 230 ∷ Some 249 ∷ []) ≡ false)
unfolding ends class_of
known_ends = (refl, refl, refl, refl, refl, refl)

-- the events of all kinds, kind by kind: of one window that is low, a dip and an interruption
pub known_kinds : map (λ e. e.kind)
    (all_polyphase_events volts 1 100 (merged_windows ((window 0 5 ∷ []) ∷ [])))
    ≡ Dip ∷ Interruption ∷ []
unfolding all_polyphase_events conditions begins ends class_of latest events extents event_from event_over
    successors first_between first_of merged_windows in_order put_in_order numbers_from
known_kinds = refl
