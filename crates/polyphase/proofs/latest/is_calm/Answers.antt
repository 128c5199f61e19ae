-- The thresholds are in order, so it is past none of the others.
use Rattle.polyphase.proofs.LatestLaws.{calm_is}
use Rattle.polyphase.proofs.latest.is_calm.Goals as goal

pub returns-then-limits-value : goal.returns-then-limits-value
returns-then-limits-value c high =
    calm_is c.args.limits.now c.args.value c.requires c.if-limits-value.true high
