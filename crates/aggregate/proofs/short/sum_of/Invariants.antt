use Rattle.std.proofs.Common.{◌≡◌, map, take}
use Rattle.aggregate.specs.ShortSums.{recent_view}
use Rattle.aggregate.specs.Sum.{HasSummed}
use Rattle.aggregate.proofs.short.sum_of.Given as goal

-- the sum is that of the basic intervals so far
abbrev pub invariant-loop-basic : goal.invariant-loop-basic
invariant-loop-basic l = record {
  summed : HasSummed l.sum (map (λ r. (recent_view l.channels r).part) (take l.basic-index l.recent));
  count : l.sum.count ≡ l.basic-index;
}
