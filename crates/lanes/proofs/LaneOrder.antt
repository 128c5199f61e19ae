-- The laws of lanes, as they are stated.
use Rattle.std.proofs.Common.{◌≡◌, ℕ, zero, suc, ◌+◌, ◌<◌, ◌≤◌, List, [], ◌∷◌, map, slice_index, subst, arith}
use Rattle.std.specs.List.{AllByRecursion}
use Rattle.std.specs.List.Sorted.{IsStrictlyIncreasing}
use Rattle.std.proofs.lemmas.List.Elements.{All-from_recursion}
use Rattle.lanes.specs.declared.lane_item.LaneItem.{LaneItem}
use Rattle.lanes.specs.Lane.{lane_items, lane_key}
use Rattle.lanes.specs.LaneLaw.{LanesRise, ReachesTell}
use Rattle.lanes.proofs.KeyLaws.{KeysRise, lane_rises}
use Rattle.lanes.proofs.NeedLaws.{need_within}
use Rattle.lanes.proofs.ReachLaws.{key_within, posted_settle, reach_done, reach_most, reach_next, reach_rises, reach_tells}
use Rattle.pq_base.specs.Recorded.{sample_count}

keys_rise : (n low : ℕ) (xs : List LaneItem) → KeysRise n low xs → IsStrictlyIncreasing (map lane_key xs)
keys_rise n low [] h k inside = absurd (omega (arith, inside))
keys_rise n low (x ∷ []) h k inside = absurd (omega (arith, inside))
keys_rise n low (x ∷ y ∷ xs) h zero inside = omega (arith, h.2.0)
keys_rise n low (x ∷ y ∷ xs) h (suc k) inside =
    let keys = map lane_key (y ∷ xs) in
    let step : suc (k + 1) ≡ suc k + 1 = omega arith in
    subst (λ j. slice_index keys k < slice_index (lane_key x ∷ keys) j) step
    (keys_rise n (lane_key x) (y ∷ xs) h.2 k (omega (arith, inside)))

keys_lie : (n low : ℕ) (xs : List LaneItem) → KeysRise n low xs →
    AllByRecursion (λ i. (1 ≤ lane_key i) × (lane_key i ≤ n)) xs
keys_lie n low [] h = tt
keys_lie n low (x ∷ xs) h = ((omega (arith, h.0), h.1), keys_lie n (lane_key x) xs h.2)

pub all_rise : LanesRise
all_rise = record {
  rising = λ r lane given. keys_rise (sample_count r) 0 (lane_items r lane) (lane_rises r given lane);
  within = λ r lane given.
      All-from_recursion (λ i. (1 ≤ lane_key i) × (lane_key i ≤ sample_count r)) (lane_items r lane)
      (keys_lie (sample_count r) 0 (lane_items r lane) (lane_rises r given lane));
}

pub all_tell : ReachesTell
all_tell = record {
  most = λ r lane k given. reach_most r given lane k;
  done = reach_done;
  rising = λ r lane j k given. reach_rises r given lane j k;
  tells = λ r lane j k given. reach_tells r given lane j k;
  next = λ r lane k i given is.
      let key = key_within r given lane k i is in
      let e = reach_next r lane k i is in
      omega (arith, key.0, e);
  settles = posted_settle;
  needs = λ r lane k w. need_within w r lane k;
}
