use Rattle.aggregate.specs.Sum.{part_of}
use Rattle.interval_ledger.proofs.AddLaws.{adds_none, adds_more}
use Rattle.pq_sequence.specs.SequentialResult.{basic_item}
use Rattle.interval_ledger.proofs.labels.Labels.push_basic.Goals as goal

-- no channel yet
pub loop-position-init : goal.loop-position-init
loop-position-init c =
    adds_none c.args.outbox.now
    (basic_item c.args.self.now.recording.value (part_of c.args.span c.args.values.now c.args.flagged))

-- one channel more
pub loop-position-preserved : goal.loop-position-preserved
loop-position-preserved c =
    adds_more c.loop-position.position c.args.outbox.now c.loop-position.outbox c.push.new.self
    (basic_item c.args.self.now.recording.value (part_of c.args.span c.args.values.now c.args.flagged))
    c.basic_item.result c.loop-position.invariant c.basic_item.ensures
    c.push.ensures.released c.push.ensures.pending
    c.push.ensures.room
