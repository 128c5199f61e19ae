use Rattle.std.proofs.Common.{◌++◌, ◌∷◌, [], false, map, arith}
use Rattle.aggregate.specs.ShortSums.{recent_view}
use Rattle.aggregate.specs.Sum.{part_of}
use Rattle.aggregate.specs.declared.short.Recent.{Recent}
use Rattle.aggregate.proofs.ShortLaws.{completed_first}
use Rattle.aggregate.proofs.short.completed.Goals as goal

-- a run began at the earliest
pub returns : goal.returns
returns c =
    let part = part_of c.args.span c.args.values.now c.args.flagged in
    let kept = map (λ (r : Recent). (recent_view c.args.channels r).part) c.args.recent.now in
    let none : Recent =
    record { begins = false; span = record { start = 0; end = 0 }; values = []; flagged = false } in
    completed_first c.args.channels c.args.recent.now part c.group.result none
    (omega (arith, c.told-recent)) c.if-not-recent.false
    (c.group.ensures.value (kept ++ part ∷ []) (c.add.ensures.value kept c.sum_of-sum.ensures.value))
