-- What contracts see of a measurement: its items are in the order of their ends.
use Rattle.std.specs.Prelude.{◌≡◌, ℕ, ◌≤◌, List, slice_get, Some}
use Rattle.pq_items.specs.declared.item.Item.{Item}
use Rattle.pq_items.specs.ItemTable.{end_of}

-- items are in the order of their ends
abbrev pub EndInOrder : List Item → Type 0
EndInOrder items = (i j : ℕ) (x y : Item) → i ≤ j → slice_get items i ≡ Some x → slice_get items j ≡ Some y →
    end_of x ≤ end_of y
