-- Of items in the order of their ends, a cut takes the first ones.
use Rattle.std.proofs.Common.{◌≡◌, ℕ, zero, suc, ◌+◌, ◌<◌, ◌≤◌, Bool, true, false, cond, nat_le, List, [], ◌∷◌, length, filter, slice_get, Option, Some, None, option_and_then, refl, sym, ap, ◌∙◌, subst, arith}
use Rattle.std.specs.Bool.{then_some}
use Rattle.std.specs.Option.{OnSome}
use Rattle.pq_items.specs.declared.item.Item.{Item}
use Rattle.pq_items.specs.ItemTable.{end_of}
use Rattle.pq_sequence.specs.SequentialResult.{cut}
use Rattle.chain_core.specs.Measurement.{EndInOrder}
use Rattle.chain_core.proofs.ChangedLaws.{stands_within}

-- whether an item ends by a mark, and the item where it does
abbrev pub ends_by : ℕ → Item → Bool
ends_by mark x = nat_le (end_of x) mark

abbrev pub item_by : ℕ → Item → Option Item
item_by mark x = then_some (ends_by mark x) x

fails_later : (a b mark : ℕ) → a ≤ b → nat_le a mark ≡ false → nat_le b mark ≡ false
fails_later a b mark more fails = grind (arith, more, fails)

tail_in_order : (x : Item) (xs : List Item) → EndInOrder (x ∷ xs) → EndInOrder xs
tail_in_order x xs h i j y z le at_i at_j = h (suc i) (suc j) y z (omega arith) at_i at_j

-- where no item ends by the mark, the cut is empty
none_by : (mark : ℕ) (xs : List Item) →
    ((j : ℕ) (y : Item) → slice_get xs j ≡ Some y → ends_by mark y ≡ false) → filter (ends_by mark) xs ≡ []
none_by mark [] h = refl
none_by mark (x ∷ xs) h =
    subst (λ b. cond b (x ∷ filter (ends_by mark) xs) (filter (ends_by mark) xs) ≡ []) (sym (h 0 x refl))
    (none_by mark xs (λ j y is. h (suc j) y is))

-- at no index there is an item that ends by the mark
no_item : (mark : ℕ) (found : Option Item) → ((y : Item) → found ≡ Some y → ends_by mark y ≡ false) → None
    ≡ option_and_then (item_by mark) found
no_item mark None h = refl
no_item mark (Some y) h = sym (ap (λ b. then_some b y) (h y refl))

later_fail : (mark : ℕ) (x : Item) (xs : List Item) → EndInOrder (x ∷ xs) → ends_by mark x ≡ false →
    (j : ℕ) (y : Item) →
    slice_get xs j ≡ Some y → ends_by mark y ≡ false
later_fail mark x xs h fails j y is =
    fails_later (end_of x) (end_of y) mark (h 0 (suc j) x y (omega arith) refl is) fails

mutual_step : (mark : ℕ) (x : Item) (xs : List Item) (k : ℕ) (b : Bool) → EndInOrder (x ∷ xs) →
    ends_by mark x ≡ b →
    slice_get (filter (ends_by mark) xs) k ≡ option_and_then (item_by mark) (slice_get xs k) →
    slice_get (cond b (x ∷ filter (ends_by mark) xs) (filter (ends_by mark) xs)) (suc k)
    ≡ option_and_then (item_by mark) (slice_get xs k)
mutual_step mark x xs k true h is rest = rest
mutual_step mark x xs k false h is rest =
    ap (λ (ys : List Item). slice_get ys (suc k)) (none_by mark xs (later_fail mark x xs h is))
    ∙ no_item mark (slice_get xs k) (later_fail mark x xs h is k)

first_step : (mark : ℕ) (x : Item) (xs : List Item) (b : Bool) → EndInOrder (x ∷ xs) → ends_by mark x ≡ b →
    slice_get (cond b (x ∷ filter (ends_by mark) xs) (filter (ends_by mark) xs)) 0 ≡ then_some b x
first_step mark x xs true h is = refl
first_step mark x xs false h is =
    ap (λ (ys : List Item). slice_get ys 0) (none_by mark xs (later_fail mark x xs h is))

filtered_item : (mark : ℕ) (xs : List Item) (k : ℕ) → EndInOrder xs →
    slice_get (filter (ends_by mark) xs) k ≡ option_and_then (item_by mark) (slice_get xs k)
filtered_item mark [] k h = refl
filtered_item mark (x ∷ xs) zero h = first_step mark x xs (ends_by mark x) h refl
filtered_item mark (x ∷ xs) (suc k) h =
    mutual_step mark x xs k (ends_by mark x) h refl (filtered_item mark xs k (tail_in_order x xs h))

-- the item of a cut at an index is that of all items, where it ends by the mark
pub cut_item : (mark : ℕ) (items : List Item) (k : ℕ) → EndInOrder items →
    slice_get (cut mark items) k ≡ option_and_then (item_by mark) (slice_get items k)
unfolding cut
cut_item mark items k h = filtered_item mark items k h

-- an item that is released stands in the result
pub released_stands : (found : Option Item) (mark : ℕ) (x : Item) →
    option_and_then (item_by mark) found ≡ Some x → found ≡ Some x
released_stands None mark x is = absurd (let bad : ⊥ = cc in bad)
released_stands (Some y) mark x is = at (ends_by mark y) is
  where
    at : (b : Bool) → then_some b y ≡ Some x → Some y ≡ Some x
    at true is = is
    at false is = absurd (let bad : ⊥ = cc in bad)

-- it stands before the end
pub cut_below : (mark : ℕ) (items : List Item) (k : ℕ) (found : Option Item) → EndInOrder items →
    found ≡ slice_get (cut mark items) k → OnSome found (k < length items)
cut_below mark items k None h is = tt
cut_below mark items k (Some x) h is =
    stands_within items k x
    (released_stands (slice_get items k) mark x (sym (cut_item mark items k h) ∙ sym is))
