-- The items of a lane by its number.
use Rattle.std.proofs.Common.{◌≡◌, ℕ, ◌+◌, ◌*◌, ◌/◌, ◌%◌, ◌<◌, ◌∙◌, ap, arith}
use Rattle.lanes.specs.Lane.{detector_items, frequency_items, lane_items, sampler_items}
use Rattle.lanes.proofs.LaneLaws.{sampler_lane, detector_lane, frequency_lane}
use Rattle.pq_base.specs.Recorded.{Recorded}
use Rattle.pq_sequence.specs.MeasuredRecording.{channel_count}

pub frequency_at : (r : Recorded) (lane : ℕ) → lane ≡ 2 * channel_count r →
    lane_items r lane ≡ frequency_items r
frequency_at r lane is = ap (lane_items r) is ∙ frequency_lane r

pub sampler_at : (r : Recorded) (lane : ℕ) → lane < 2 * channel_count r → lane % 2 ≡ 0 →
    lane_items r lane ≡ sampler_items r (lane / 2)
sampler_at r lane inside even =
    let e : lane ≡ 2 * (lane / 2) = omega arith in
    let c : lane / 2 < channel_count r = omega arith in
    ap (lane_items r) e ∙ sampler_lane r (lane / 2) c

pub detector_at : (r : Recorded) (lane : ℕ) → lane < 2 * channel_count r → lane % 2 ≡ 1 →
    lane_items r lane ≡ detector_items r (lane / 2)
detector_at r lane inside odd =
    let e : lane ≡ 2 * (lane / 2) + 1 = omega arith in
    let c : lane / 2 < channel_count r = omega arith in
    ap (lane_items r) e ∙ detector_lane r (lane / 2) c
