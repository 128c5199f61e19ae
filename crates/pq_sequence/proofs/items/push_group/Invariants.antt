use Rattle.pq_sequence.specs.Lists.{Adds}
use Rattle.pq_sequence.specs.Measured.{group_item}
use Rattle.pq_sequence.proofs.ItemLemmas.{first_items}
use Rattle.pq_sequence.proofs.items.push_group.Given as goal

-- the channels so far
abbrev pub invariant-loop-position : goal.invariant-loop-position
invariant-loop-position l =
    Adds l.fn.items l.items (first_items (group_item l.long l.recording l.group) l.position)
