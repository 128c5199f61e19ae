use Rattle.pq_sequence.specs.Lists.{Adds}
use Rattle.pq_sequence.specs.Measured.{basic_seen}
use Rattle.pq_sequence.specs.MeasuredRecording.{channel_count}
use Rattle.pq_sequence.specs.SequentialResult.{basic_item}
use Rattle.pq_sequence.proofs.ItemLemmas.{first_items}
use Rattle.pq_sequence.proofs.items.push_basic.Given as goal

-- the channels so far
abbrev pub invariant-loop-position : goal.invariant-loop-position
invariant-loop-position l = Adds l.fn.items l.items
    (first_items (basic_item l.recording (basic_seen (channel_count l.recording) l.basic).part) l.position)
