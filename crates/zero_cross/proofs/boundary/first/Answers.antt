use Rattle.std.proofs.Common.{arith}
use Rattle.zero_cross.proofs.RuleLaws.{rule_is_near}
use Rattle.zero_cross.proofs.boundary.first.Goals as goal

-- twice the greatest distance is small
pub overflow_mul-rule : goal.overflow_mul-rule
overflow_mul-rule c = grind (arith, rule_is_near c.args.rule.now c.requires.rule)

-- and so is one more
pub overflow_add-rule : goal.overflow_add-rule
overflow_add-rule c = grind (arith, rule_is_near c.args.rule.now c.requires.rule)
