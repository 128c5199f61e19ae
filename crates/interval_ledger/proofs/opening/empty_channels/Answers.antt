use Rattle.std.proofs.Common.{◌≡◌, ℕ, ◌*◌, ◌≤◌, ◌==◌, Bool, true, false, if◌then◌else◌, arith}
use Rattle.std.proofs.Math.Nat.{mul-le-mul_right}
use Rattle.pq_sequence.specs.BasicInterval.{cycles_of}
use Rattle.zero_cross.proofs.RuleLaws.{IsNear, rule_is_near}
use Rattle.zero_cross.specs.declared.rule.Rule.{Rule}
use Rattle.interval_ledger.proofs.opening.empty_channels.Goals as goal

cycles_near : (lf cycles : ℕ) → cycles ≡ cycles_of lf → (1 ≤ cycles) × (cycles ≤ 12)
cycles_near lf cycles is = at (lf == 50) is
  where
    at : (b : Bool) → cycles ≡ (if b then 10 else 12) → (1 ≤ cycles) × (cycles ≤ 12)
    at true is = (omega (arith, is), omega (arith, is))
    at false is = (omega (arith, is), omega (arith, is))

-- so many samples are few, and at least one
span_near : (rule : Rule) (cycles : ℕ) → IsNear rule → (1 ≤ cycles) × (cycles ≤ 12) →
    (14 ≤ 2 * rule.lo * cycles) × (2 * rule.lo * cycles ≤ 120_000)
span_near rule cycles near few =
    let least : 14 ≤ 2 * rule.lo = omega (arith, near.ahead) in
    let most : 2 * rule.lo ≤ 10_000 = omega (arith, near.below, near.above, near.near) in
    let low = mul-le-mul_right cycles least in
    let high = mul-le-mul_right cycles most in
    (omega (arith, low, few.0), omega (arith, high, few.1))

pub overflow_mul-values : goal.overflow_mul-values
overflow_mul-values c =
    let near = rule_is_near c.recorded_rule-rule.result c.recorded_rule-rule.ensures.rule in
    omega (arith, near.below, near.above, near.near)

pub overflow_mul-values-2 : goal.overflow_mul-values-2
overflow_mul-values-2 c =
    let span = span_near c.recorded_rule-rule.result c.cycles_of_line.result
    (rule_is_near c.recorded_rule-rule.result c.recorded_rule-rule.ensures.rule)
    (cycles_near _ c.cycles_of_line.result c.cycles_of_line.ensures) in omega (arith, span.1)

pub nonzero_div-values : goal.nonzero_div-values
nonzero_div-values c =
    let span = span_near c.recorded_rule-rule.result c.cycles_of_line.result
    (rule_is_near c.recorded_rule-rule.result c.recorded_rule-rule.ensures.rule)
    (cycles_near _ c.cycles_of_line.result c.cycles_of_line.ensures) in omega (arith, span.0)

pub nonzero_div-windows : goal.nonzero_div-windows
nonzero_div-windows c =
    omega (arith, (rule_is_near c.recorded_rule-rule.result c.recorded_rule-rule.ensures.rule).ahead)
