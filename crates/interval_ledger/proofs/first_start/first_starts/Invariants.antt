use Rattle.std.proofs.Common.{◌≡◌, take, length}
use Rattle.interval_ledger.specs.Channel.{first_starts}
use Rattle.interval_ledger.proofs.first_start.first_starts.Given as goal

-- the channels so far
abbrev pub invariant-loop-position : goal.invariant-loop-position
invariant-loop-position l = record {
  room : length l.starts ≡ 16;
  so_far : take l.position l.starts ≡ first_starts (take l.position l.channels);
}
