-- What contracts see of an outbox: items that are released, in order, and items that are known and wait.
use Rattle.std.specs.Prelude.{◌≡◌, ℕ, Bool, not, nat_le, List, ◌++◌, filter}
use Rattle.pq_items.specs.declared.item.Item.{Item}
use Rattle.pq_items.specs.ItemOrder.{item_cmp}
use Rattle.pq_items.specs.ItemTable.{end_of}
use Rattle.pq_words.specs.Sorted.{in_order}

-- what is released, what is pending, and for how many more there is room
pub record Outgoing : Type 0 where
  pub released : List Item
  pub pending : List Item
  pub room : ℕ

-- the item ends by a place
abbrev pub is_due : ℕ → Item → Bool
is_due w i = nat_le (end_of i) w

-- it ends after the place
abbrev pub is_later : ℕ → Item → Bool
is_later w i = not (nat_le (end_of i) w)

-- the pending items that are due are released in order, and the others stay
pub record Releases (w : ℕ) (old new : Outgoing) : Type 0 where
  pub released : new.released ≡ old.released ++ filter (is_due w) (in_order item_cmp old.pending)
  pub pending : new.pending ≡ filter (is_later w) (in_order item_cmp old.pending)
