-- The items of a lane, in the list of all lanes, and how far they settle it.
use Rattle.std.proofs.Common.{◌≡◌, ℕ, zero, suc, ◌+◌, ◌-◌, ◌^◌, ◌<◌, ◌≤◌, List, length, map, get_or, None, Some, slice_get, refl, sym, subst, ◌∙◌, ap, arith}
use Rattle.std.specs.declared.alloc.Global.{Global}
use Rattle.std.specs.declared.vec.Vec.{Vec}
use Rattle.std.specs.Prelude.{option_map}
use Rattle.std.specs.Option.{option_map_or}
use Rattle.std.proofs.lemmas.List.{length-map}
use Rattle.std.proofs.lemmas.Option.{get_or_from_slice_get, slice_get-map, slice_get_read, slice_get_within}
use Rattle.lanes.specs.declared.lane_item.LaneItem.{LaneItem}
use Rattle.lanes.specs.Lane.{lane_count, lane_items, lane_key, reach}
use Rattle.lanes.proofs.LaneOrder.{all_rise}
use Rattle.pq_base.specs.Recorded.{IsRecording, Recorded, sample_count}
use Rattle.pq_words.specs.Steps.{numbers_below, numbers_from}
use Rattle.pq_words.proofs.StepLaws.{length_numbers}
use Rattle.worked_ledger.specs.Measured.{AreLanes}

number_at : {X : Type 0} (f : ℕ → X) (low n i : ℕ) → i < n →
    slice_get (map f (numbers_from low n)) i ≡ Some (f (low + i))
unfolding numbers_from
number_at f low zero i inside = absurd (omega (arith, inside))
number_at f low (suc n) zero inside = let e : low ≡ low + 0 = omega arith in ap (λ k. Some (f k)) e
number_at f low (suc n) (suc i) inside =
    let e : low + 1 + i ≡ low + suc i = omega arith in
    number_at f (low + 1) n i (omega (arith, inside)) ∙ ap (λ k. Some (f k)) e

-- there is a list for each lane
pub lanes_there : (r : Recorded) (lanes : List (Vec LaneItem Global)) → AreLanes r lanes →
    length lanes ≡ lane_count r
lanes_there r lanes are =
    sym (length-map lanes (λ items. items.items)) ∙ ap length are
    ∙ length-map (numbers_below (lane_count r)) (lane_items r) ∙ length_numbers 0 (lane_count r)

same : {X : Type 0} (x y : X) → Some x ≡ Some y → x ≡ y
same x y e = cc

-- and the one at a lane has its items
pub lane_at : (r : Recorded) (lanes : List (Vec LaneItem Global)) (lane : ℕ) (list : Vec LaneItem Global) →
    AreLanes r lanes → lane < lane_count r → list ≡ get_or lanes lane list → list.items ≡ lane_items r lane
lane_at r lanes lane list are inside is =
    let there : lane < length lanes = omega (arith, inside, lanes_there r lanes are) in
    let got = slice_get_read lanes (length lanes) lane list refl there is in
    let at : 0 + lane ≡ lane = omega arith in
    same list.items (lane_items r lane)
    (sym (slice_get-map (λ items. items.items) lanes lane ∙ ap (option_map (λ items. items.items)) got)
    ∙ ap (λ lists. slice_get lists lane) are ∙ number_at (lane_items r) 0 (lane_count r) lane inside
    ∙ ap (λ k. Some (lane_items r k)) at)

module _ (r : Recorded) (lane k : ℕ) where
  -- the reach by the next item
  pub reach_next : (i : LaneItem) → slice_get (lane_items r lane) k ≡ Some i → reach r lane k ≡ lane_key i - 1
  unfolding reach
  reach_next i got = ap (λ o. option_map_or (λ i. lane_key i - 1) o (sample_count r)) got

  -- and where there is none
  pub reach_end : slice_get (lane_items r lane) k ≡ None → reach r lane k ≡ sample_count r
  unfolding reach
  reach_end got = ap (λ o. option_map_or (λ i. lane_key i - 1) o (sample_count r)) got

  -- keys fit
  pub key_fits : (i : LaneItem) → IsRecording r → slice_get (lane_items r lane) k ≡ Some i →
      lane_key i < 2 ^ 64
  key_fits i is got =
      let items = lane_items r lane in
      let there = slice_get_within items k i got in
      let at : lane_key i ≤ sample_count r = subst (λ (j : LaneItem). lane_key j ≤ sample_count r)
      (get_or_from_slice_get items k i i got) (all_rise.within r lane is k i there).1 in
      omega (arith, at, is.short)
