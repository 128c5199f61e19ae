-- The subject: the law that an event is told by the windows that begin before its end (5.4, 5.5), and what
-- touches a span by those that begin before the span's end (4.7); later windows change neither.
-- Sections are those of IEC 61000-4-30:2015; "profile" marks a choice of this project.
use Rattle.std.specs.Prelude.{◌≡◌, ℕ, ◌<◌, ◌≤◌, Bool, not, nat_lt, nat_le, List, ◌++◌, map, filter}
use Rattle.std.specs.List.{list_any}
use Rattle.event_detect.specs.declared.event.Event.{Event}
use Rattle.event_detect.specs.declared.limits.Limits.{Limits}
use Rattle.event_detect.specs.declared.window.Window.{Window}
use Rattle.event_detect.specs.Flag.{is_touched}
use Rattle.polyphase.specs.PolyphaseEvent.{ChannelWindow, all_polyphase_events, kinds, merged_windows}
use Rattle.pq_base.specs.Recorded.{Recorded, IsRecording, sample_count}
use Rattle.pq_sequence.specs.MeasuredRecording.{channel_count, recorded_events, recorded_windows, windows_by_channel}
use Rattle.settled_laws.specs.Touch.{touches_now}

-- a window begins before a place, whether of one channel or among the merged ones
abbrev pub begins_before : ℕ → Window → Bool
begins_before w window = nat_lt window.start w

abbrev pub is_early : ℕ → ChannelWindow → Bool
is_early w m = begins_before w m.window

-- the merged windows of a recording that begin before a place, and the others
abbrev pub early_windows : Recorded → ℕ → List ChannelWindow
early_windows r w = filter (is_early w) (recorded_windows r)

abbrev pub later_windows : Recorded → ℕ → List ChannelWindow
later_windows r w = filter (λ m. not (is_early w m)) (recorded_windows r)

-- the dips, swells and interruptions that a recording would have if it had no later windows (5.4, 5.5)
abbrev pub early_events : Recorded → Limits → ℕ → List Event
early_events r limits w =
    all_polyphase_events limits (channel_count r) (sample_count r) (early_windows r w)

-- the events that end by a place
abbrev pub events_by : ℕ → List Event → List Event
events_by w events = filter (λ e. nat_le e.end w) events

pub record EventsAreSettled : Type 0 where
  -- the merged windows that begin before a place stand before the others, and are the merge of those windows
  -- of each channel that do (profile)
  pub first : (r : Recorded) (w : ℕ) → recorded_windows r ≡ early_windows r w ++ later_windows r w
  pub merged : (r : Recorded) (w : ℕ) →
      early_windows r w ≡ merged_windows (map (filter (begins_before w)) (windows_by_channel r))
  -- the events that end by a place are the same without the later windows (5.4, 5.5)
  pub ended : (r : Recorded) (limits : Limits) (w : ℕ) → IsRecording r →
      events_by w (recorded_events r limits) ≡ events_by w (early_events r limits w)
  -- and so is whether a span that ends by the place is touched (4.7)
  pub touched : (r : Recorded) (limits : Limits) (w start end : ℕ) → IsRecording r → start ≤ end → end ≤ w →
      is_touched (recorded_events r limits) start end ≡ is_touched (early_events r limits w) start end
  -- a span is touched exactly where, over the windows that begin before its end, an event of some kind has
  -- ended after the span's start or runs on (4.7)
  pub at_once : (r : Recorded) (limits : Limits) (start end : ℕ) → IsRecording r → start < end →
      end ≤ sample_count r →
      is_touched (recorded_events r limits) start end
      ≡ list_any (λ kind. touches_now kind limits (channel_count r) start (early_windows r end)) kinds
