-- Every recording has the bounds.
use Rattle.std.proofs.Common.{◌≡◌, ℕ, ◌+◌, ◌≤◌, List, [], ◌∷◌, length, slice_get, Option, Some, IfSome, subst, arith}
use Rattle.core_laws.proofs.EndLaws.{ItemEnds, got, items_end}
use Rattle.event_detect.specs.declared.limits.Limits.{Limits}
use Rattle.lanes.specs.declared.lane_item.LaneItem.{LaneItem}
use Rattle.lanes.specs.Lane.{lane_items, lane_key}
use Rattle.lanes.proofs.KeyLaws.{KeysRise, lane_rises}
use Rattle.lanes.proofs.ReachLaws.{key_within, reach_most, reach_rises, reach_tells}
use Rattle.pq_base.specs.Recorded.{Recorded, IsRecording, sample_count}
use Rattle.pq_items.specs.declared.item.Item.{Item}
use Rattle.pq_items.specs.ItemTable.{end_of}
use Rattle.pq_sequence.specs.SequentialResult.{sequential}
use Rattle.query_session.specs.Bounds.{HasBounds}

-- keys that rise from a place on are at most as many as there are places after it
few_keys : (n low : ℕ) (xs : List LaneItem) → low ≤ n → KeysRise n low xs → low + length xs ≤ n
few_keys n low [] within h = omega arith
few_keys n low (x ∷ xs) within h =
    let rest = few_keys n (lane_key x) xs h.1 h.2 in omega (arith, rest, h.0)

item_ends : (r : Recorded) (limits : Limits) (k : ℕ) (x : Item) → IsRecording r →
    slice_get (sequential r limits) k ≡ Some x → end_of x ≤ sample_count r
item_ends r limits k x is there =
    subst (λ (o : Option Item). IfSome o (ItemEnds (sample_count r))) there
    (got (ItemEnds (sample_count r)) (sequential r limits) k (items_end r is limits))

pub has_bounds : (r : Recorded) (limits : Limits) → IsRecording r → HasBounds r limits
has_bounds r limits is = record {
  most = λ lane k. reach_most r is lane k;
  rises = λ lane j k until. reach_rises r is lane j k until;
  tells = λ lane j k inside there e. reach_tells r is lane j k inside there e;
  keys = λ lane k i there. key_within r is lane k i there;
  few = λ lane. let h = few_keys (sample_count r) 0 (lane_items r lane) (omega arith)
      (lane_rises r is lane) in
      omega (arith, h);
  ended = λ k x there. item_ends r limits k x is there;
}
