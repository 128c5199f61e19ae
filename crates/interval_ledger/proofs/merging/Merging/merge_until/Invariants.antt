use Rattle.interval_ledger.specs.Merging.{HasPosted, IsMerging, IsWithinReach, KeepsMark, MergesItems, due_left}
use Rattle.interval_ledger.proofs.merging.Merging.merge_until.Given as goal

-- what was due so far is merged
abbrev pub invariant-loop-due : goal.invariant-loop-due
invariant-loop-due g l = record {
  posted : HasPosted l.self;
  at : IsMerging l.self;
  within : IsWithinReach l.self l.w;
  same : KeepsMark l.fn.self l.self;
  ticks : MergesItems l.fn.steps l.steps l.fn.self l.self;
}

abbrev pub decreases-loop-due : goal.decreases-loop-due
decreases-loop-due g l = due_left l.self
