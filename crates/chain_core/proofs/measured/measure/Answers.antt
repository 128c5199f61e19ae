use Rattle.std.proofs.Common.{sym, subst}
use Rattle.chain_core.specs.Measurement.{EndInOrder}
use Rattle.chain_core.proofs.OrderedItems.{ends_in_order}
use Rattle.chain_core.proofs.measured.measure.Goals as goal

-- the result is in order
pub new-requires : goal.new-requires
new-requires c =
    subst (λ xs. EndInOrder xs) (sym c.in_ok-items.ensures.value)
    (ends_in_order c.args.recording.now c.args.limits.now)
