-- The order of items goes by their ends first: what does not end by a place is followed by nothing that does.
use Rattle.std.proofs.Common.{◌≡◌, ℕ, ◌<◌, ◌≤◌, true, false, nat_le, sym, ◌∙◌, ap, inl, inr, arith, Less}
use Rattle.std.specs.Ordering.{is_lt, nat_cmp, ordering_then}
use Rattle.std.specs.Cmp.{nat_cmp_is}
use Rattle.std.proofs.lemmas.Bool.{cases_lt}
use Rattle.pq_items.specs.declared.item.Item.{Item}
use Rattle.pq_items.specs.ItemOrder.{details_cmp, details_of, key_of, item_cmp}
use Rattle.pq_items.specs.ItemTable.{end_of}

-- what ends earlier stands before
pub earlier_end : (x y : Item) → end_of y < end_of x → is_lt (item_cmp y x) ≡ true
earlier_end x y less =
    let a = key_of y in
    let b = key_of x in
    let rest = ordering_then (nat_cmp a.rank b.rank)
    (ordering_then (nat_cmp a.start b.start) (nat_cmp a.channel b.channel)) in
    sym (ap (λ r. is_lt (ordering_then (ordering_then r rest) (details_cmp (details_of y) (details_of x))))
    (nat_cmp_is (end_of y) (end_of x) Less less))

le_fails : (a b w : ℕ) → a ≤ b → nat_le a w ≡ false → nat_le b w ≡ false
le_fails a b w more fails = grind (arith, more, fails)

pub ends_above : (w : ℕ) (x y : Item) → is_lt (item_cmp y x) ≡ false → nat_le (end_of x) w ≡ false →
    nat_le (end_of y) w ≡ false
ends_above w x y low fails =
    elim (cases_lt (end_of y) (end_of x)) [
      | inl less ↦
          absurd (let is : true ≡ false = sym (earlier_end x y less) ∙ low in let bad : ⊥ = cc in bad)
      | inr more ↦ le_fails (end_of x) (end_of y) w more fails
    ]
