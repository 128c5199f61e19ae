-- Items that are put with those that wait, one after another.
use Rattle.std.proofs.Common.{◌≡◌, ℕ, ◌+◌, ◌*◌, List, [], ◌∷◌, ◌++◌, refl, sym, ◌∙◌, ap, arith, append-nil}
use Rattle.interval_ledger.specs.Label.{Adds}
use Rattle.interval_ledger.specs.Outbox.{Outgoing}
use Rattle.pq_items.specs.declared.item.Item.{Item}
use Rattle.pq_sequence.proofs.ItemLemmas.{added, first_items, items_more, items_none}

-- no channel's yet
pub adds_none : (old : Outgoing) (item_at : ℕ → Item) → Adds 0 old old (first_items item_at 0)
adds_none old item_at = record {
  released_same = refl;
  pending_more = sym (append-nil old.pending) ∙ ap (λ xs. old.pending ++ xs) (sym (items_none item_at));
  room_left = omega arith;
}

-- one channel's more
pub adds_more : (n : ℕ) (old now after : Outgoing) (item_at : ℕ → Item) (item : Item) →
    Adds n old now (first_items item_at n) → item ≡ item_at n → after.released ≡ now.released →
    after.pending ≡ now.pending ++ item ∷ [] → after.room + 1 ≡ now.room →
    Adds (n + 1) old after (first_items item_at (n + 1))
adds_more n old now after item_at item so_far is same pushed room = record {
  released_same = same ∙ so_far.released_same;
  pending_more = items_more item_at n old.pending now.pending after.pending so_far.pending_more
      (pushed ∙ ap (λ x. now.pending ++ x ∷ []) is);
  room_left = let left = so_far.room_left in omega (arith, left, room);
}

-- a basic interval's items, and those of three lengths
pub adds_completed : (n : ℕ) (old one two three new : Outgoing) (basics shorts tens two_hours : List Item) →
    Adds n old one basics → Adds n one two shorts → Adds n two three tens → Adds n three new two_hours →
    Adds (4 * n) old new ((basics ++ []) ++ shorts ++ tens ++ two_hours)
adds_completed n old one two three new basics shorts tens two_hours a b c d = record {
  released_same = d.released_same ∙ c.released_same ∙ b.released_same ∙ a.released_same;
  pending_more =
      d.pending_more
      ∙ ap (λ xs. xs ++ two_hours) (c.pending_more ∙ ap (λ xs. xs ++ tens) (b.pending_more
      ∙ ap (λ xs. xs ++ shorts) a.pending_more))
      ∙ added old.pending basics shorts tens two_hours
      ∙ ap (λ xs. old.pending ++ (xs ++ shorts ++ tens ++ two_hours)) (sym (append-nil basics));
  room_left =
      let p = a.room_left in let q = b.room_left in let r = c.room_left in let s = d.room_left in
      omega (arith, p, q, r, s);
}
