-- What contracts see of opening: the room that is taken for what the lanes will post. All of it is profile.
use Rattle.std.specs.Prelude.{ℕ, ◌+◌, ◌*◌, ◌/◌, List, replicate}
use Rattle.interval_ledger.specs.Channel.{ChannelView, empty_channel}
use Rattle.pq_base.specs.Recorded.{Recorded, sample_count}
use Rattle.pq_sequence.specs.BasicInterval.{cycles_of}
use Rattle.pq_sequence.specs.MeasuredRecording.{channel_count, recorded_rule}

-- room for the values of a channel, among so many 10-minute ticks: one for as many samples as their cycles
-- have at least, and one more for each tick
abbrev pub value_room : Recorded → ℕ → ℕ
value_room r ticks = sample_count r / (2 * (recorded_rule r).lo * cycles_of r.lf) + ticks

-- room for its windows: one for the least distance of two boundaries
abbrev pub window_room : Recorded → ℕ
window_room r = sample_count r / (recorded_rule r).lo

-- the channels of a recording, with this room
abbrev pub empty_channels : Recorded → ℕ → List ChannelView
empty_channels r ticks =
    replicate (channel_count r) (empty_channel (value_room r ticks) (window_room r))
