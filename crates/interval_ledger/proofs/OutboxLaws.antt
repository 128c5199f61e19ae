-- A list in order, cut where the first item ends after a place, is what is due and then what is later.
use Rattle.std.proofs.Common.{◌≡◌, ℕ, zero, suc, ◌+◌, ◌-◌, ◌<◌, ◌≤◌, true, false, cond, not, nat_le, List, [], ◌∷◌, ◌++◌, length, filter, take, drop, get_or, All, Less, refl, sym, ◌∙◌, ap, subst, inl, inr, arith}
use Rattle.std.specs.List.{AllByRecursion}
use Rattle.std.specs.Ordering.{is_lt, nat_cmp, ordering_then}
use Rattle.std.specs.Cmp.{nat_cmp_is}
use Rattle.std.proofs.Math.Seq.{take-append-add, drop-append-add}
use Rattle.std.proofs.lemmas.Bool.{cases_lt}
use Rattle.std.proofs.lemmas.Bool.Decides.{nat_tests}
use Rattle.std.proofs.lemmas.List.{length-take, length-take-le, length-append, take_all}
use Rattle.std.proofs.lemmas.List.Elements.{recursion_from_All}
use Rattle.pq_items.specs.declared.item.Item.{Item}
use Rattle.pq_items.specs.ItemOrder.{details_cmp, details_of, key_of, item_cmp}
use Rattle.pq_items.specs.ItemTable.{end_of}
use Rattle.pq_items.proofs.OrderLaws.{item_cmp_weak}
use Rattle.interval_ledger.specs.Outbox.{is_due, is_later}
use Rattle.pq_words.specs.Sorted.{in_order}
use Rattle.pq_words.proofs.SortedLaws.{Rising, in_order_rises}

-- what ends earlier stands before
earlier_end : (x y : Item) → end_of y < end_of x → is_lt (item_cmp y x) ≡ true
earlier_end x y less =
    let a = key_of y in
    let b = key_of x in
    let rest = ordering_then (nat_cmp a.rank b.rank)
    (ordering_then (nat_cmp a.start b.start) (nat_cmp a.channel b.channel)) in
    sym (ap (λ r. is_lt (ordering_then (ordering_then r rest) (details_cmp (details_of y) (details_of x))))
    (nat_cmp_is (end_of y) (end_of x) Less less))

le_fails : (a b w : ℕ) → a ≤ b → nat_le a w ≡ false → nat_le b w ≡ false
le_fails a b w more fails = grind (arith, more, fails)

-- what does not end by w is followed by nothing that does
ends_above : (w : ℕ) (x y : Item) → is_lt (item_cmp y x) ≡ false → nat_le (end_of x) w ≡ false →
    nat_le (end_of y) w ≡ false
ends_above w x y low fails =
    elim (cases_lt (end_of y) (end_of x)) [
      | inl less ↦ absurd (let is : true ≡ false = sym (earlier_end x y less) ∙ low in let bad : ⊥ = cc in
          bad)
      | inr more ↦ le_fails (end_of x) (end_of y) w more fails
    ]

none_due : (w : ℕ) (xs : List Item) → AllByRecursion (λ i. nat_le (end_of i) w ≡ false) xs →
    filter (is_due w) xs ≡ []
none_due w [] h = refl
none_due w (x ∷ xs) h =
    ap (λ b. cond b (x ∷ filter (is_due w) xs) (filter (is_due w) xs)) h.0 ∙ none_due w xs h.1

all_later : (w : ℕ) (xs : List Item) → AllByRecursion (λ i. nat_le (end_of i) w ≡ false) xs →
    filter (is_later w) xs ≡ xs
all_later w [] h = refl
all_later w (x ∷ xs) h =
    ap (λ b. cond (not b) (x ∷ filter (is_later w) xs) (filter (is_later w) xs)) h.0
    ∙ ap (λ ys. x ∷ ys) (all_later w xs h.1)

all_above : (w : ℕ) (x : Item) → nat_le (end_of x) w ≡ false → (ys : List Item) →
    AllByRecursion (λ y. is_lt (item_cmp y x) ≡ false) ys →
    AllByRecursion (λ y. nat_le (end_of y) w ≡ false) ys
all_above w x first [] h = tt
all_above w x first (y ∷ ys) h = (ends_above w x y h.0 first, all_above w x first ys h.1)

late : (e w : ℕ) → w < e → nat_le e w ≡ false
late e w h = grind (arith, nat_tests, h)

early : (e w : ℕ) → e ≤ w → nat_le e w ≡ true
early e w h = grind (arith, nat_tests, h)

-- the first items end by w, and the next one, if there is one, after it
pub record IsCutAt (w due : ℕ) (xs : List Item) : Type 0 where
  pub within : due ≤ length xs
  pub passed : All (λ i. end_of i ≤ w) (take due xs)
  pub stops : (d : Item) → due < length xs → w < end_of (get_or xs due d)

splits : (w due : ℕ) (xs : List Item) → Rising (λ x y. is_lt (item_cmp x y)) xs → due ≤ length xs →
    AllByRecursion (λ i. end_of i ≤ w) (take due xs) →
    ((d : Item) → due < length xs → w < end_of (get_or xs due d)) →
    (filter (is_due w) xs ≡ take due xs) × (filter (is_later w) xs ≡ drop due xs)
splits w zero [] rises within passed stops = (refl, refl)
splits w (suc due) [] rises within passed stops = absurd (omega (arith, within))
splits w zero (x ∷ xs) rises within passed stops =
    let first : nat_le (end_of x) w ≡ false = late (end_of x) w (stops x (omega arith)) in
    let rest : AllByRecursion (λ i. nat_le (end_of i) w ≡ false) (x ∷ xs) =
    (first, all_above w x first xs rises.0) in
    (none_due w (x ∷ xs) rest, all_later w (x ∷ xs) rest)
splits w (suc due) (x ∷ xs) rises within passed stops =
    let rest = splits w due xs rises.1 (omega (arith, within)) passed.1
    (λ d inside. stops d (omega (arith, inside))) in
    let first : nat_le (end_of x) w ≡ true = early (end_of x) w passed.0 in (
      ap (λ b. cond b (x ∷ filter (is_due w) xs) (filter (is_due w) xs)) first ∙ ap (λ ys. x ∷ ys) rest.0,
      ap (λ b. cond (not b) (x ∷ filter (is_later w) xs) (filter (is_later w) xs)) first ∙ rest.1,
    )

-- the part of a list from a place on
part_is : (from : ℕ) (items new : List Item) → from ≤ length items →
    new ≡ take from items ++ in_order item_cmp (drop from items) →
    take (length new - from) (drop from new) ≡ in_order item_cmp (drop from items)
part_is from items new inside is =
    let sorted = in_order item_cmp (drop from items) in
    let a = length-take from items in
    let front : length (take from items) ≡ from = omega (arith, a, inside) in
    let b : length new ≡ from + length sorted =
    ap length is ∙ length-append (take from items) sorted ∙ ap (λ n. n + length sorted) front in
    let e : from ≡ length (take from items) + 0 = omega (arith, front) in
    let c : drop from new ≡ sorted =
    ap (drop from) is ∙ ap (λ n. drop n (take from items ++ sorted)) e
    ∙ drop-append-add (take from items) sorted 0 in
    ap (λ xs. take (length new - from) xs) c ∙ take_all (length new - from) sorted (omega (arith, b))

-- the list from a place on was put in order, and is cut where the first item does not end by w
module _ (w from due : ℕ) (items new seen : List Item) (inside : from ≤ length items)
    (is : new ≡ take from items ++ in_order item_cmp (drop from items)) (same : seen ≡ new)
    (cuts : IsCutAt w due (take (length seen - from) (drop from seen))) where
  abbrev sorted : List Item
  sorted = in_order item_cmp (drop from items)

  front : length (take from items) ≡ from
  front = let e = length-take from items in omega (arith, e, inside)

  now_cut : IsCutAt w due sorted
  now_cut = subst (IsCutAt w due) (part_is from items seen inside (same ∙ is)) cuts

  parts : (filter (is_due w) sorted ≡ take due sorted) × (filter (is_later w) sorted ≡ drop due sorted)
  parts =
      splits w due sorted (in_order_rises item_cmp item_cmp_weak (drop from items)) now_cut.within
      (recursion_from_All (λ i. end_of i ≤ w) (take due sorted) now_cut.passed) now_cut.stops

  -- the items up to the new place are those released before and those that are due
  pub now_released : take (from + due) new
      ≡ take from items ++ filter (is_due w) (in_order item_cmp (drop from items))
  now_released =
      ap (take (from + due)) is
      ∙ ap (λ n. take (n + due) (take from items ++ sorted)) (sym front)
      ∙ take-append-add (take from items) sorted due
      ∙ ap (λ xs. take from items ++ xs) (sym (parts.0))

  -- and the others are those that end later
  pub now_pending : drop (from + due) new ≡ filter (is_later w) (in_order item_cmp (drop from items))
  now_pending =
      ap (drop (from + due)) is
      ∙ ap (λ n. drop (n + due) (take from items ++ sorted)) (sym front)
      ∙ drop-append-add (take from items) sorted due
      ∙ sym (parts.1)

  pub now_counted : length (take (from + due) new) ≡ from + due
  now_counted =
      let a = length-take from items in
      let b = ap length is ∙ length-append (take from items) sorted in
      let c = now_cut.within in
      length-take-le (from + due) new (omega (arith, a, b, c, inside))
