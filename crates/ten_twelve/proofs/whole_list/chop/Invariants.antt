use Rattle.std.proofs.Common.{◌≡◌, min, take, slice_index_or}
use Rattle.ten_twelve.proofs.ChopLemmas.{runs_below}
use Rattle.ten_twelve.proofs.whole_list.chop.Given as goal

abbrev pub invariant-loop-index : goal.invariant-loop-index
invariant-loop-index l = l.spans.items ≡ runs_below (take l.index l.starts) l.length
    (min (slice_index_or l.starts l.index l.end) l.end)
