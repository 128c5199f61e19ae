use Rattle.std.proofs.Common.{◌≡◌}
use Rattle.interval_ledger.specs.Channel.{first_starts}
use Rattle.interval_ledger.specs.Merging.{HasPosted, IsMerging, MayMergeUntil, MergesItems, MergesWindows, count_left}
use Rattle.interval_ledger.proofs.merging.Merging.merge_windows.Given as goal

-- the windows so far are merged
abbrev pub invariant-loop-position : goal.invariant-loop-position
invariant-loop-position g l = record {
  posted : HasPosted l.self;
  at : IsMerging l.self;
  until : MayMergeUntil l.self l.until;
  same : MergesWindows l.fn.self l.self;
  ticks : MergesItems l.fn.steps l.steps l.fn.self l.self;
  starts : l.starts ≡ first_starts l.self.channels.items;
}

abbrev pub decreases-loop-position : goal.decreases-loop-position
decreases-loop-position g l = count_left l.self
