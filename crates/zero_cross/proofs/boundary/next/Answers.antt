use Rattle.std.proofs.Common.{arith}
use Rattle.zero_cross.proofs.RuleLaws.{rule_is_near}
use Rattle.zero_cross.proofs.boundary.next.Goals as goal

-- a place in the signal and a distance stay far from the end of the type
pub overflow_add-place : goal.overflow_add-place
overflow_add-place c = grind (arith, rule_is_near c.args.rule.now c.requires.rule)

-- one place more too
pub overflow_add-place-2 : goal.overflow_add-place-2
overflow_add-place-2 c = grind (arith, rule_is_near c.args.rule.now c.requires.rule)

-- the search range begins there
pub overflow_add-place-3 : goal.overflow_add-place-3
overflow_add-place-3 c = grind (arith, rule_is_near c.args.rule.now c.requires.rule)

-- it begins past place 0
pub crossing-requires-clause-low : goal.crossing-requires-clause-low
crossing-requires-clause-low c = grind (arith, rule_is_near c.args.rule.now c.requires.rule)

-- the search range ends there
pub overflow_add-place-in-None : goal.overflow_add-place-in-None
overflow_add-place-in-None c = grind (arith, rule_is_near c.args.rule.now c.requires.rule)

-- half a cycle on
pub overflow_add-result : goal.overflow_add-result
overflow_add-result c = grind (arith, rule_is_near c.args.rule.now c.requires.rule)

-- a crossing that is found lies ahead
pub returns-in-Some-clause-ahead : goal.returns-in-Some-clause-ahead
returns-in-Some-clause-ahead c = grind (arith, rule_is_near c.args.rule.now c.requires.rule)

-- half a cycle on lies before the end of the search range, which fits
pub returns-then-place-rule-clause-within : goal.returns-then-place-rule-clause-within
returns-then-place-rule-clause-within c = grind (arith, rule_is_near c.args.rule.now c.requires.rule)

-- half a cycle on lies ahead
pub returns-then-place-rule-clause-ahead : goal.returns-then-place-rule-clause-ahead
returns-then-place-rule-clause-ahead c = grind (arith, rule_is_near c.args.rule.now c.requires.rule)

-- half a cycle is no less than the least distance
pub returns-then-place-rule-clause-least : goal.returns-then-place-rule-clause-least
returns-then-place-rule-clause-least c = grind (arith, rule_is_near c.args.rule.now c.requires.rule)

-- half a cycle is no more than the greatest distance
pub returns-then-place-rule-clause-most : goal.returns-then-place-rule-clause-most
returns-then-place-rule-clause-most c = grind (arith, rule_is_near c.args.rule.now c.requires.rule)
