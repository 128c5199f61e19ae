use Rattle.interval_ledger.specs.Label.{Adds}
use Rattle.pq_sequence.specs.Measured.{group_item}
use Rattle.pq_sequence.proofs.ItemLemmas.{first_items}
use Rattle.interval_ledger.proofs.labels.Labels.push_each.Given as goal

-- the channels so far
abbrev pub invariant-loop-position : goal.invariant-loop-position
invariant-loop-position l = Adds l.position l.fn.outbox l.outbox
    (first_items (group_item l.long l.self.recording.value l.group) l.position)
