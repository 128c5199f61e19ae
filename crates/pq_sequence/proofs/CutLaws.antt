-- A cut begins the sequential result.
use Rattle.std.proofs.Common.{◌≡◌, ℕ, ◌<◌, ◌≤◌, true, false, nat_le, sym, ◌∙◌, ap, inl, inr, arith, Less}
use Rattle.std.specs.Ordering.{is_lt, nat_cmp, ordering_then}
use Rattle.std.specs.Cmp.{nat_cmp_is}
use Rattle.std.proofs.lemmas.Bool.{cases_lt}
use Rattle.pq_items.specs.declared.item.Item.{Item}
use Rattle.pq_items.specs.ItemOrder.{details_cmp, details_of, key_of, item_cmp}
use Rattle.pq_items.specs.ItemTable.{end_of}
use Rattle.pq_items.proofs.OrderLaws.{item_cmp_weak}
use Rattle.pq_sequence.specs.SequentialResult.{all_items, sequential, cut}
use Rattle.pq_sequence.specs.WholeResult.{CutIsPrefix}
use Rattle.pq_words.proofs.SortedLaws.{in_order_rises}
use Rattle.pq_words.proofs.PrefixLaws.{filter_begins, fails_on_rising}

-- what ends earlier stands before
earlier_end : (x y : Item) → end_of y < end_of x → is_lt (item_cmp y x) ≡ true
earlier_end x y less =
    let a = key_of y in
    let b = key_of x in
    let rest = ordering_then (nat_cmp a.rank b.rank)
    (ordering_then (nat_cmp a.start b.start) (nat_cmp a.channel b.channel)) in
    sym (ap (λ r. is_lt (ordering_then (ordering_then r rest) (details_cmp (details_of y) (details_of x))))
    (nat_cmp_is (end_of y) (end_of x) Less less))

le_fails : (a b w : ℕ) → a ≤ b → nat_le a w ≡ false → nat_le b w ≡ false
le_fails a b w more fails = grind (arith, more, fails)

-- what does not end by w is followed by nothing that does
ends_above : (w : ℕ) (x y : Item) → is_lt (item_cmp y x) ≡ false → nat_le (end_of x) w ≡ false →
    nat_le (end_of y) w ≡ false
ends_above w x y low fails =
    elim (cases_lt (end_of y) (end_of x)) [
      | inl less ↦ absurd (let is : true ≡ false = sym (earlier_end x y less) ∙ low in let bad : ⊥ = cc in
          bad)
      | inr more ↦ le_fails (end_of x) (end_of y) w more fails
    ]

-- the items that end by w are the first ones of the result
pub cut_begins : CutIsPrefix
unfolding sequential cut
cut_begins r limits w =
    filter_begins (λ i. nat_le (end_of i) w) (sequential r limits)
    (fails_on_rising (λ x y. is_lt (item_cmp x y)) (λ i. nat_le (end_of i) w) (ends_above w)
    (sequential r limits) (in_order_rises item_cmp item_cmp_weak (all_items r limits)))
