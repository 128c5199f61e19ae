use Rattle.std.proofs.Common.{◌≡◌, ◌+◌, ◌-◌, length}
use Rattle.interval_ledger.specs.Ledger.{released_of}
use Rattle.query_session.specs.Reading.{AreNext}
use Rattle.query_session.proofs.reading.gather.Given as goal

-- the items so far are those before the index
abbrev pub invariant-loop-index : goal.invariant-loop-index
invariant-loop-index l = record {
  at : l.index ≡ l.from + length l.items.items;
  next : AreNext (released_of l.ledger) l.from l.items.items;
}

abbrev pub decreases-loop-index : goal.decreases-loop-index
decreases-loop-index l = l.end - l.index
