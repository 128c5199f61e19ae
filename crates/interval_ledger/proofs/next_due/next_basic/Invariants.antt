use Rattle.std.proofs.Common.{ℕ, ◌<◌, IsSome}
use Rattle.interval_ledger.specs.NextDue.{value_at}
use Rattle.interval_ledger.proofs.next_due.next_basic.Given as goal

-- the channels so far have posted theirs
abbrev pub invariant-loop-channel : goal.invariant-loop-channel
invariant-loop-channel l =
    (position : ℕ) → position < l.channel-index → IsSome (value_at l.channels l.k position)
