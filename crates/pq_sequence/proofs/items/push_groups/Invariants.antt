use Rattle.std.proofs.Common.{take}
use Rattle.pq_sequence.specs.Lists.{Adds}
use Rattle.pq_sequence.specs.Measured.{group_item}
use Rattle.pq_sequence.specs.SequentialResult.{for_each_channel}
use Rattle.pq_sequence.proofs.items.push_groups.Given as goal

-- the intervals so far
abbrev pub invariant-loop-group : goal.invariant-loop-group
invariant-loop-group l = Adds l.fn.items l.items
    (for_each_channel l.recording (group_item l.long l.recording) (take l.group-index l.groups))
