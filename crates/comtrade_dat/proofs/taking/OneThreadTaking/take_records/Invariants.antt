use Rattle.std.proofs.Common.{◌≡◌, ◌++◌, map, take, drop}
use Rattle.std.specs.List.{All}
use Rattle.comtrade_dat.specs.Channel.{ChannelRead, read_on}
use Rattle.comtrade_dat.specs.Run.{HaveCounts}
use Rattle.comtrade_dat.proofs.taking.OneThreadTaking.take_records.Given as goal

-- the channels so far are read on, and had all counts
abbrev pub invariant-loop-channel : goal.invariant-loop-channel
invariant-loop-channel l = record {
  read : l.channels ≡ map (read_on l.size l.run l.start l.end) (take l.channel-index l.fn.channels)
      ++ drop l.channel-index l.fn.channels;
  counted : All (λ (channel : ChannelRead). HaveCounts l.size l.run l.start l.end channel.position)
      (take l.channel-index l.channels);
}
