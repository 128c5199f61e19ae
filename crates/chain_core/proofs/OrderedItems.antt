-- The sequential result is in the order of its items' ends.
use Rattle.std.proofs.Common.{◌≡◌, ℕ, zero, suc, ◌<◌, ◌≤◌, true, false, List, [], ◌∷◌, slice_get, Some, unwrap_or, sym, ◌∙◌, ap, inl, inr, arith, Less, subst, refl}
use Rattle.std.specs.List.{AllByRecursion}
use Rattle.std.specs.Ordering.{is_lt, nat_cmp, ordering_then}
use Rattle.std.specs.Cmp.{nat_cmp_is}
use Rattle.std.proofs.lemmas.Bool.{cases_lt}
use Rattle.event_detect.specs.declared.limits.Limits.{Limits}
use Rattle.pq_base.specs.Recorded.{Recorded}
use Rattle.pq_items.specs.declared.item.Item.{Item}
use Rattle.pq_items.specs.ItemOrder.{details_cmp, details_of, key_of, item_cmp}
use Rattle.pq_items.specs.ItemTable.{end_of}
use Rattle.pq_items.proofs.OrderLaws.{item_cmp_weak}
use Rattle.pq_sequence.specs.SequentialResult.{all_items, sequential}
use Rattle.pq_words.proofs.SortedLaws.{Rising, in_order_rises}
use Rattle.chain_core.specs.Measurement.{EndInOrder}

-- what ends earlier stands before
earlier_end : (x y : Item) → end_of y < end_of x → is_lt (item_cmp y x) ≡ true
earlier_end x y less =
    let a = key_of y in
    let b = key_of x in
    let rest = ordering_then (nat_cmp a.rank b.rank)
    (ordering_then (nat_cmp a.start b.start) (nat_cmp a.channel b.channel)) in
    sym (ap (λ r. is_lt (ordering_then (ordering_then r rest) (details_cmp (details_of y) (details_of x))))
    (nat_cmp_is (end_of y) (end_of x) Less less))

not_earlier : (x y : Item) → is_lt (item_cmp y x) ≡ false → end_of x ≤ end_of y
not_earlier x y low =
    elim (cases_lt (end_of y) (end_of x)) [
      | inl less ↦ absurd (let is : true ≡ false = sym (earlier_end x y less) ∙ low in let bad : ⊥ = cc in
          bad)
      | inr more ↦ more
    ]

later_end : (x y : Item) (xs : List Item) (j : ℕ) → AllByRecursion (λ z. is_lt (item_cmp z x) ≡ false) xs →
    slice_get xs j ≡ Some y → end_of x ≤ end_of y
later_end x y [] j h is = absurd (let bad : ⊥ = cc in bad)
later_end x y (z ∷ xs) zero h is =
    let same : z ≡ y = ap (λ o. unwrap_or o z) is in
    subst (λ w. end_of x ≤ end_of w) same (not_earlier x z h.0)
later_end x y (z ∷ xs) (suc j) h is = later_end x y xs j h.1 is

rising_ends : (xs : List Item) → Rising (λ x y. is_lt (item_cmp x y)) xs → EndInOrder xs
rising_ends [] h i j x y le at_i at_j = absurd (let bad : ⊥ = cc in bad)
rising_ends (z ∷ xs) h zero zero x y le at_i at_j =
    let same : z ≡ x = ap (λ o. unwrap_or o z) at_i in
    let other : z ≡ y = ap (λ o. unwrap_or o z) at_j in
    subst (λ w. end_of w ≤ end_of y) same (subst (λ w. end_of z ≤ end_of w) other (omega arith))
rising_ends (z ∷ xs) h zero (suc j) x y le at_i at_j =
    let same : z ≡ x = ap (λ o. unwrap_or o z) at_i in
    subst (λ w. end_of w ≤ end_of y) same (later_end z y xs j h.0 at_j)
rising_ends (z ∷ xs) h (suc i) zero x y le at_i at_j = absurd (omega arith)
rising_ends (z ∷ xs) h (suc i) (suc j) x y le at_i at_j =
    rising_ends xs h.1 i j x y (omega arith) at_i at_j

-- the sequential result is in the order of its items' ends
pub ends_in_order : (r : Recorded) (limits : Limits) → EndInOrder (sequential r limits)
unfolding sequential
ends_in_order r limits =
    rising_ends (sequential r limits) (in_order_rises item_cmp item_cmp_weak (all_items r limits))
