use Rattle.std.proofs.Common.{length}
use Rattle.interval_ledger.proofs.AddLaws.{adds_completed}
use Rattle.interval_ledger.proofs.labels.Labels.push_completed.Goals as goal

-- those of the basic interval, and those of each length
pub returns : goal.returns
returns c = λ front.
    adds_completed (length c.args.self.now.recording.value.numbers) c.args.outbox.now c.push_basic.new.outbox
    c.push_group.new.outbox c.push_group-2.new.outbox c.push_group-3.new.outbox _ _ _ _
    c.push_basic.ensures c.push_group.ensures c.push_group-2.ensures c.push_group-3.ensures
