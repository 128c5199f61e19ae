-- The keys of a lane by its number.
use Rattle.std.proofs.Common.{◌≡◌, ℕ, ◌+◌, ◌*◌, ◌/◌, ◌%◌, ◌^◌, ◌<◌, List, length, map, sym, ◌∙◌, ap, arith}
use Rattle.std.proofs.lemmas.List.{length-map}
use Rattle.chain_core.specs.MeasuredOf.{keys_at, recorded_keys}
use Rattle.lanes.specs.Lane.{detector_items, frequency_items, lane_count, lane_items, lane_key, sampler_items}
use Rattle.lanes.specs.declared.lane_item.LaneItem.{LaneItem}
use Rattle.lanes.proofs.LaneLaws.{sampler_lane, detector_lane, frequency_lane}
use Rattle.pq_base.specs.Recorded.{Recorded, IsRecording}
use Rattle.pq_sequence.specs.MeasuredRecording.{channel_count}
use Rattle.pq_words.specs.Steps.{numbers_below}
use Rattle.pq_words.proofs.StepLaws.{length_numbers}

pub frequency_at : (r : Recorded) (lane : ℕ) → lane ≡ 2 * channel_count r →
    keys_at r lane ≡ map lane_key (frequency_items r)
frequency_at r lane is = ap (keys_at r) is ∙ ap (map lane_key) (frequency_lane r)

pub sampler_at : (r : Recorded) (lane : ℕ) → lane < 2 * channel_count r → lane % 2 ≡ 0 →
    keys_at r lane ≡ map lane_key (sampler_items r (lane / 2))
sampler_at r lane inside even =
    let e : lane ≡ 2 * (lane / 2) = omega arith in
    let c : lane / 2 < channel_count r = omega arith in
    ap (keys_at r) e ∙ ap (map lane_key) (sampler_lane r (lane / 2) c)

pub detector_at : (r : Recorded) (lane : ℕ) → lane < 2 * channel_count r → lane % 2 ≡ 1 →
    keys_at r lane ≡ map lane_key (detector_items r (lane / 2))
detector_at r lane inside odd =
    let e : lane ≡ 2 * (lane / 2) + 1 = omega arith in
    let c : lane / 2 < channel_count r = omega arith in
    ap (keys_at r) e ∙ ap (map lane_key) (detector_lane r (lane / 2) c)

-- all of them
pub ruleset keys_by_lane = (frequency_at, sampler_at, detector_at)

-- there are few lanes
pub few_lanes : (r : Recorded) → IsRecording r → length (recorded_keys r) < 2 ^ 32
few_lanes r h =
    let count : length (recorded_keys r) ≡ 2 * channel_count r + 1 =
    length-map (numbers_below (lane_count r)) (keys_at r) ∙ length_numbers 0 (lane_count r) in
    omega (arith, count, h.channels.1)
