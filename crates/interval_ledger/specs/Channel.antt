-- What contracts see of a channel's queues: what its sampler and its detector have posted, and how many of
-- its windows are merged.
use Rattle.std.specs.Prelude.{ℕ, ◌+◌, ◌^◌, ◌-◌, List, map, slice_get}
use Rattle.std.specs.Option.{option_map_or}
use Rattle.event_detect.specs.declared.window.Window.{Window}
use Rattle.interval_ledger.specs.declared.channel.SpanValue.{SpanValue}
use Rattle.interval_ledger.specs.Queue.{Queued, empty_queue, with_item}

pub record ChannelView : Type 0 where
  pub values : Queued SpanValue
  pub windows : Queued Window
  pub merged : ℕ

-- nothing posted, with room for so many values and windows
abbrev pub empty_channel : ℕ → ℕ → ChannelView
empty_channel values windows =
    record { values = empty_queue values; windows = empty_queue windows; merged = 0 }

-- one value more, one window more, and one window more that is merged
abbrev pub with_value : ChannelView → SpanValue → ChannelView
with_value c value = record c { values = with_item c.values value }

abbrev pub with_window : ChannelView → Window → ChannelView
with_window c window = record c { windows = with_item c.windows window }

abbrev pub with_merged : ChannelView → ChannelView
with_merged c = record c { merged = c.merged + 1 }

-- where the first window begins that is posted and not merged; the greatest number where there is none
abbrev pub first_start : ChannelView → ℕ
first_start c = option_map_or (λ w. w.start) (slice_get c.windows.items c.merged) (2 ^ 64 - 1)

-- the same of each channel
abbrev pub first_starts : List ChannelView → List ℕ
first_starts channels = map first_start channels
