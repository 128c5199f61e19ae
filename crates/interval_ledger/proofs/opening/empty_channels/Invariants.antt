use Rattle.std.proofs.Common.{◌≡◌, replicate}
use Rattle.interval_ledger.specs.Channel.{empty_channel}
use Rattle.interval_ledger.proofs.opening.empty_channels.Given as goal

-- so many channels so far
abbrev pub invariant-loop : goal.invariant-loop
invariant-loop l = l.channels.items ≡ replicate l.counter (empty_channel l.values l.windows)
