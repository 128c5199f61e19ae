use Rattle.interval_ledger.proofs.AddLaws.{adds_none, adds_more}
use Rattle.pq_sequence.specs.Measured.{group_item}
use Rattle.interval_ledger.proofs.labels.Labels.push_each.Goals as goal

-- no channel yet
pub loop-position-init : goal.loop-position-init
loop-position-init c =
    adds_none c.args.outbox.now
    (group_item c.args.long c.args.self.now.recording.value c.args.group.now)

-- one channel more
pub loop-position-preserved : goal.loop-position-preserved
loop-position-preserved c =
    adds_more c.loop-position.position c.args.outbox.now c.loop-position.outbox c.push.new.self
    (group_item c.args.long c.args.self.now.recording.value c.args.group.now)
    c.group_item.result c.loop-position.invariant c.group_item.ensures
    c.push.ensures.released c.push.ensures.pending
    c.push.ensures.room
