-- Good settings put the thresholds in order, and no value both begins and ends an event of one kind.
use Rattle.std.proofs.Common.{ℕ, ◌+◌, ◌-◌, ◌*◌, ◌<◌, ◌≤◌, arith}
use Rattle.std.proofs.lemmas.Bool.{ltb-true, leb-true}
use Rattle.std.proofs.Math.Nat.{mul-lt-mul_of_pos_left}
use Rattle.event_detect.specs.declared.limits.Settings.{Settings}
use Rattle.event_detect.specs.Threshold.{IsInRange, IsSound, IsInOrder, KeepsApart, limits_of, class_of}

-- more thousandths are more microvolts
more : (udin a b : ℕ) → 1 ≤ udin → a < b → udin * a < udin * b
more udin a b some less = mul-lt-mul_of_pos_left less some

pub limits_in_order : (settings : Settings) → IsInRange settings → IsSound settings →
    IsInOrder (limits_of settings)
unfolding limits_of
limits_in_order s range sound =
    let some = range.some_udin in
    record {
      interruption = more s.udin_mv s.interruption (s.interruption + s.hysteresis) some
          (omega (arith, sound.hysteresis));
      between = more s.udin_mv (s.interruption + s.hysteresis) s.dip some sound.interruption;
      dip = more s.udin_mv s.dip (s.dip + s.hysteresis) some (omega (arith, sound.hysteresis));
      apart = more s.udin_mv (s.dip + s.hysteresis) (s.swell - s.hysteresis) some sound.apart;
      swell = more s.udin_mv (s.swell - s.hysteresis) s.swell some
          (omega (arith, sound.hysteresis, sound.apart));
    }

-- of thresholds in order, no value both begins and ends an event of one kind
pub classes_apart : KeepsApart
unfolding class_of
classes_apart l v order = record {
  dip = λ below clear. absurd (omega (arith, order.dip, ltb-true, leb-true));
  swell = λ above clear. absurd (omega (arith, order.swell, ltb-true, leb-true));
  interruption = λ below clear. absurd (omega (arith, order.interruption, ltb-true, leb-true));
}
