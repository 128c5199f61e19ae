use Rattle.std.proofs.Common.{◌≡◌, map}
use Rattle.std.specs.List.{All}
use Rattle.comtrade_dat.specs.Channel.{ChannelRead}
use Rattle.pq_words.specs.declared.limits.TheConstants.{MOST_MICROVOLTS}
use Rattle.pq_words.specs.Magnitude.{IsWithin}
use Rattle.comtrade_dat.proofs.decoded.samples.Given as goal

-- the samples of the channels so far
abbrev pub invariant-loop-channel : goal.invariant-loop-channel
invariant-loop-channel l = record {
  value : map (λ s. s.items) l.samples.items ≡ map (λ (channel : ChannelRead). channel.samples) l.yielded;
  quiet : All (λ s. All (IsWithin MOST_MICROVOLTS) s.items) l.samples.items;
}
