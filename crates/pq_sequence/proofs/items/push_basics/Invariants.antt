use Rattle.std.proofs.Common.{take}
use Rattle.std.specs.List.{flat_map}
use Rattle.pq_sequence.specs.Lists.{Adds}
use Rattle.pq_sequence.proofs.ItemLemmas.{items_of_basic}
use Rattle.pq_sequence.proofs.items.push_basics.Given as goal

-- the basic intervals so far
abbrev pub invariant-loop-basic : goal.invariant-loop-basic
invariant-loop-basic l =
    Adds l.fn.items l.items (flat_map (items_of_basic l.recording) (take l.basic-index l.basics))
