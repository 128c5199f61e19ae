-- The six products are those of the definition, and good settings put them in order.
use Rattle.std.proofs.Common.{refl, sym, subst}
use Rattle.event_detect.specs.Threshold.{IsInOrder, limits_of}
use Rattle.event_detect.proofs.LimitLaws.{limits_in_order}
use Rattle.event_detect.proofs.limits.Limits.of.Goals as goal

value_is : goal.returns-clause-value
unfolding limits_of
value_is c = cc

pub returns-clause-value : goal.returns-clause-value
returns-clause-value c = value_is c

pub returns-clause-within : goal.returns-clause-within
returns-clause-within c = subst IsInOrder (sym (value_is c))
    (limits_in_order c.args.settings.now c.requires (c.if-not-are_sound.ensures.0 refl))
