use Rattle.aggregate.specs.Sum.{part_of}
use Rattle.interval_ledger.specs.Label.{Adds}
use Rattle.pq_sequence.specs.SequentialResult.{basic_item}
use Rattle.pq_sequence.proofs.ItemLemmas.{first_items}
use Rattle.interval_ledger.proofs.labels.Labels.push_basic.Given as goal

-- the channels so far
abbrev pub invariant-loop-position : goal.invariant-loop-position
invariant-loop-position l = Adds l.position l.fn.outbox l.outbox
    (first_items (basic_item l.self.recording.value (part_of l.span l.values l.flagged)) l.position)
