use Rattle.std.proofs.Common.{ap}
use Rattle.interval_ledger.specs.Settlement.{SettlementView}
use Rattle.interval_ledger.proofs.ledger.Ledger.advance.Goals as goal

-- only the mark is another
pub returns-clause-same : goal.returns-clause-same
returns-clause-same g c = record {
  subject_same = ap (λ (v : SettlementView). record { recording = v.recording; limits = v.limits })
      c.advance.ensures.same;
  counts_same = ap (λ (v : SettlementView). v.counts) c.advance.ensures.same;
}

pub returns-clause-merged : goal.returns-clause-merged
returns-clause-merged g c =
    record { rises = c.advance.ensures.ticks.rises; within = c.advance.ensures.posted.merged }

pub returns-clause-ticks : goal.returns-clause-ticks
returns-clause-ticks g c = c.advance.ensures.ticks.ticks
