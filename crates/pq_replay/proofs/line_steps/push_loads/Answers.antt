use Rattle.pq_replay.proofs.PassingLaws.{loads_more}
use Rattle.pq_replay.proofs.line_steps.push_loads.Goals as goal

-- one load more
pub loop-lane-preserved : goal.loop-lane-preserved
loop-lane-preserved c =
    loads_more c.args.session c.loop-lane.lane c.args.steps.now.items c.loop-lane.steps.items
    c.push.new.self.items c.loop-lane.invariant c.in_ok-push.ensures.items
