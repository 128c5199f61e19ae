-- How far a lane is settled: reaches rise with the count, and tell it.
use Rattle.std.proofs.Common.{◌≡◌, ℕ, zero, suc, ◌-◌, ◌<◌, ◌≤◌, false, cond, nat_le, List, [], ◌∷◌, length, filter, take, drop, Option, Some, None, IfSome, slice_get, refl, ◌∙◌, ap, subst, arith}
use Rattle.std.specs.List.{AllByRecursion}
use Rattle.std.specs.Option.{option_map_or}
use Rattle.std.proofs.lemmas.Bool.Decides.{nat_tests}
use Rattle.std.proofs.lemmas.Option.{slice_get_past}
use Rattle.lanes.specs.declared.lane_item.LaneItem.{LaneItem}
use Rattle.lanes.specs.Lane.{is_up_to, lane_items, lane_key, reach, settled}
use Rattle.lanes.proofs.KeyLaws.{KeysRise, lane_rises}
use Rattle.pq_base.specs.Recorded.{Recorded, IsRecording, sample_count}

-- the reach of a list of items of which k are posted
abbrev reach_in : ℕ → List LaneItem → ℕ → ℕ
reach_in n xs k = option_map_or (λ i. lane_key i - 1) (slice_get xs k) n

-- ---- lists with rising keys from a place on

-- past a place before the first key all keys are
pub all_past : (n w low : ℕ) (xs : List LaneItem) → w ≤ low → KeysRise n low xs →
    AllByRecursion (λ i. w < lane_key i) xs
all_past n w low [] from h = tt
all_past n w low (x ∷ xs) from h = (
  omega (arith, from, h.0),
  all_past n w (lane_key x) xs (omega (arith, from, h.0)) h.2,
)

past_in : (n w low k : ℕ) (xs : List LaneItem) → KeysRise n low xs → w ≤ reach_in n xs k →
    AllByRecursion (λ i. w < lane_key i) (drop k xs)
past_in n w low zero [] h until = tt
past_in n w low (suc k) [] h until = tt
past_in n w low zero (x ∷ xs) h until =
    let less : w < lane_key x = omega (arith, until, h.0) in
    (less, all_past n w (lane_key x) xs (omega (arith, less)) h.2)
past_in n w low (suc k) (x ∷ xs) h until = past_in n w (lane_key x) k xs h.2 until

most_in : (n low k : ℕ) (xs : List LaneItem) → KeysRise n low xs → reach_in n xs k ≤ n
most_in n low zero [] h = omega arith
most_in n low (suc k) [] h = omega arith
most_in n low zero (x ∷ xs) h = omega (arith, h.1)
most_in n low (suc k) (x ∷ xs) h = most_in n (lane_key x) k xs h.2

least_in : (n low k : ℕ) (xs : List LaneItem) → low ≤ n → KeysRise n low xs → low ≤ reach_in n xs k
least_in n low zero [] within h = within
least_in n low (suc k) [] within h = within
least_in n low zero (x ∷ xs) within h = omega (arith, h.0)
least_in n low (suc k) (x ∷ xs) within h =
    let more = least_in n (lane_key x) k xs h.1 h.2 in omega (arith, more, h.0)

rises_in : (n low j k : ℕ) (xs : List LaneItem) → KeysRise n low xs → j ≤ k →
    reach_in n xs j ≤ reach_in n xs k
rises_in n low zero zero [] h until = omega arith
rises_in n low zero (suc k) [] h until = omega arith
rises_in n low (suc j) zero [] h until = omega arith
rises_in n low (suc j) (suc k) [] h until = omega arith
rises_in n low zero zero (x ∷ xs) h until = omega arith
rises_in n low (suc j) zero (x ∷ xs) h until = absurd (omega (arith, until))
rises_in n low zero (suc k) (x ∷ xs) h until =
    let more = least_in n (lane_key x) k xs h.1 h.2 in omega (arith, more)
rises_in n low (suc j) (suc k) (x ∷ xs) h until = rises_in n (lane_key x) j k xs h.2 (omega (arith, until))

-- the next item's reach is below that of every greater count
tells_in : (n low j k : ℕ) (xs : List LaneItem) → KeysRise n low xs → j ≤ length xs → k ≤ length xs →
    reach_in n xs j ≡ reach_in n xs k → j ≡ k
tells_in n low zero zero xs h inside there e = refl
tells_in n low (suc j) zero [] h inside there e = absurd (omega (arith, inside))
tells_in n low zero (suc k) [] h inside there e = absurd (omega (arith, there))
tells_in n low (suc j) (suc k) [] h inside there e = absurd (omega (arith, inside))
tells_in n low zero (suc k) (x ∷ xs) h inside there e =
    let more = least_in n (lane_key x) k xs h.1 h.2 in absurd (omega (arith, more, e, h.0))
tells_in n low (suc j) zero (x ∷ xs) h inside there e =
    let more = least_in n (lane_key x) j xs h.1 h.2 in absurd (omega (arith, more, e, h.0))
tells_in n low (suc j) (suc k) (x ∷ xs) h inside there e =
    ap suc (tells_in n (lane_key x) j k xs h.2 (omega (arith, inside)) (omega (arith, there)) e)

key_in : (n low k : ℕ) (xs : List LaneItem) → KeysRise n low xs →
    IfSome (slice_get xs k) (λ i. (low < lane_key i) × (lane_key i ≤ n))
key_in n low zero [] h = tt
key_in n low (suc k) [] h = tt
key_in n low zero (x ∷ xs) h = (h.0, h.1)
key_in n low (suc k) (x ∷ xs) h = at (slice_get xs k) (key_in n (lane_key x) k xs h.2)
  where
    at : (o : Option LaneItem) → IfSome o (λ i. (lane_key x < lane_key i) × (lane_key i ≤ n)) →
        IfSome o (λ i. (low < lane_key i) × (lane_key i ≤ n))
    at None is = tt
    at (Some i) is = (omega (arith, is.0, h.0), is.1)

-- ---- the lanes of a recording

module _ (r : Recorded) (given : IsRecording r) (lane : ℕ) where
  -- a key is at least 1, and at most the number of samples
  pub key_within : (k : ℕ) (i : LaneItem) → slice_get (lane_items r lane) k ≡ Some i →
      (1 ≤ lane_key i) × (lane_key i ≤ sample_count r)
  key_within k i is =
      let both : IfSome (Some i) (λ j. (0 < lane_key j) × (lane_key j ≤ sample_count r)) =
      subst (λ o. IfSome o (λ j. (0 < lane_key j) × (lane_key j ≤ sample_count r))) is
      (key_in (sample_count r) 0 k (lane_items r lane) (lane_rises r given lane)) in
      (omega (arith, both.0), both.1)

  -- a reach is at most the number of samples
  pub reach_most : (k : ℕ) → reach r lane k ≤ sample_count r
  unfolding reach
  reach_most k = most_in (sample_count r) 0 k (lane_items r lane) (lane_rises r given lane)

  -- with more items posted it is no less
  pub reach_rises : (j k : ℕ) → j ≤ k → reach r lane j ≤ reach r lane k
  unfolding reach
  reach_rises j k until = rises_in (sample_count r) 0 j k (lane_items r lane) (lane_rises r given lane) until

  -- and equal reaches mean equal counts
  pub reach_tells : (j k : ℕ) → j ≤ length (lane_items r lane) → k ≤ length (lane_items r lane) →
      reach r lane j ≡ reach r lane k → j ≡ k
  unfolding reach
  reach_tells j k inside there e =
      tells_in (sample_count r) 0 j k (lane_items r lane) (lane_rises r given lane) inside there e

  -- items that are not posted have keys past the reach
  pub past_reach : (k w : ℕ) → w ≤ reach r lane k →
      AllByRecursion (λ i. w < lane_key i) (drop k (lane_items r lane))
  unfolding reach
  past_reach k w until =
      past_in (sample_count r) w 0 k (lane_items r lane) (lane_rises r given lane) until

-- the reach is the key of the next item less one
pub reach_next : (r : Recorded) (lane k : ℕ) (i : LaneItem) → slice_get (lane_items r lane) k ≡ Some i →
    reach r lane k ≡ lane_key i - 1
unfolding reach
reach_next r lane k i is = ap (λ o. option_map_or (λ i. lane_key i - 1) o (sample_count r)) is

-- where all are posted it is the number of samples
pub reach_done : (r : Recorded) (lane k : ℕ) → length (lane_items r lane) ≤ k →
    reach r lane k ≡ sample_count r
unfolding reach
reach_done r lane k all =
    ap (λ o. option_map_or (λ i. lane_key i - 1) o (sample_count r))
    (slice_get_past (lane_items r lane) k all)

-- ---- what is posted settles the lane

late_key : (a w : ℕ) → w < a → nat_le a w ≡ false
late_key a w h = grind (arith, nat_tests, h)

-- an item past w is not among those up to w
pub none_late : (w : ℕ) (xs : List LaneItem) → AllByRecursion (λ i. w < lane_key i) xs →
    filter (is_up_to w) xs ≡ []
none_late w [] h = refl
none_late w (x ∷ xs) h =
    ap (λ t. cond t (x ∷ filter (is_up_to w) xs) (filter (is_up_to w) xs)) (late_key (lane_key x) w h.0)
    ∙ none_late w xs h.1

early_taken : (w k : ℕ) (xs : List LaneItem) → AllByRecursion (λ i. w < lane_key i) (drop k xs) →
    filter (is_up_to w) xs ≡ filter (is_up_to w) (take k xs)
early_taken w zero [] h = refl
early_taken w (suc k) [] h = refl
early_taken w zero (x ∷ xs) h = none_late w (x ∷ xs) h
early_taken w (suc k) (x ∷ xs) h = ap (λ ys. cond (is_up_to w x) (x ∷ ys) ys) (early_taken w k xs h)

-- within the reach of k posted items they have all keys up to w
pub posted_settle : (r : Recorded) (lane k w : ℕ) → IsRecording r → w ≤ reach r lane k →
    settled r lane w ≡ filter (is_up_to w) (take k (lane_items r lane))
posted_settle r lane k w given until = early_taken w k (lane_items r lane) (past_reach r given lane k w until)
