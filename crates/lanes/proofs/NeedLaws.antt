-- What a place needs of a lane: no more than what is posted of it within its reach.
use Rattle.std.proofs.Common.{◌≡◌, ℕ, zero, suc, ◌<◌, ◌≤◌, Bool, true, false, cond, nat_le, List, [], ◌∷◌, drop, ap, arith}
use Rattle.std.specs.List.{AllByRecursion, sum_by}
use Rattle.std.proofs.lemmas.Bool.Decides.{nat_tests}
use Rattle.std.proofs.lemmas.List.Sums.{sum_by-cons}
use Rattle.lanes.specs.declared.lane_item.LaneItem.{LaneItem}
use Rattle.lanes.specs.Lane.{is_up_to, lane_items, lane_key, need, reach}
use Rattle.lanes.proofs.ReachLaws.{past_reach}
use Rattle.pq_base.specs.Recorded.{Recorded, IsRecording}

module _ (w : ℕ) where
  -- 1 for a key up to w, and 0
  counted : LaneItem → ℕ
  counted i = cond (is_up_to w i) 1 0

  not_counted : (i : LaneItem) → w < lane_key i → counted i ≡ 0
  unfolding counted
  not_counted i less =
      let fails : nat_le (lane_key i) w ≡ false = grind (arith, nat_tests, less) in ap (λ b. cond b 1 0) fails

  at_most_one : (i : LaneItem) → counted i ≤ 1
  unfolding counted
  at_most_one i = at (is_up_to w i)
    where
      at : (b : Bool) → cond b 1 0 ≤ 1
      at true = omega arith
      at false = omega arith

  none_counted : (xs : List LaneItem) → AllByRecursion (λ i. w < lane_key i) xs → sum_by counted xs ≤ 0
  none_counted [] h = omega arith
  none_counted (x ∷ xs) h =
      let e = sum_by-cons counted x xs in
      let first = not_counted x h.0 in
      let rest = none_counted xs h.1 in
      omega (arith, e, first, rest)

  few_counted : (xs : List LaneItem) (k : ℕ) → AllByRecursion (λ i. w < lane_key i) (drop k xs) →
      sum_by counted xs ≤ k
  few_counted [] zero h = omega arith
  few_counted (x ∷ xs) zero h = none_counted (x ∷ xs) h
  few_counted [] (suc k) h = omega arith
  few_counted (x ∷ xs) (suc k) h =
      let e = sum_by-cons counted x xs in
      let first = at_most_one x in
      let rest = few_counted xs k h in
      omega (arith, e, first, rest)

  -- where items past the first k have keys past w, w needs k items at most
  pub few_needed : (r : Recorded) (lane k : ℕ) →
      AllByRecursion (λ i. w < lane_key i) (drop k (lane_items r lane)) → need r lane w ≤ k
  unfolding need counted
  few_needed r lane k h = few_counted (lane_items r lane) k h

  -- so what lies within the reach of k posted items needs no more
  pub need_within : (r : Recorded) (lane k : ℕ) → IsRecording r → w ≤ reach r lane k → need r lane w ≤ k
  need_within r lane k given until = few_needed r lane k (past_reach r given lane k w until)
