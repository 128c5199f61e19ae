use Rattle.std.proofs.Common.{◌≡◌, slice_index, refl}
use Rattle.interval_ledger.proofs.EarliestStep.{less_so, same_so}
use Rattle.interval_ledger.proofs.first_start.earliest.Goals as goal
use Rattle.interval_ledger.proofs.first_start.earliest.Goals.{then-start-least, else-start-least}

-- one channel more
pub loop-k-preserved : goal.loop-k-preserved
loop-k-preserved c =
    let k = c.loop-k.k in
    let starts = c.args.starts.now in
    let start = slice_index starts k in
    let is : slice_index starts k ≡ start = refl in
    elim c.if-start-least.branch [
      | then-start-least w ↦ less_so starts c.args.until k start c.loop-k.least c.if-start-least.least
          c.loop-k.found c.if-start-least.found is
          w.if-start-least.true w.found-is w.least-is c.loop-k.invariant
      | else-start-least w ↦ same_so starts c.args.until k start c.loop-k.least c.if-start-least.least
          c.loop-k.found c.if-start-least.found is
          w.if-start-least.false w.found-is w.least-is c.loop-k.invariant
    ]
