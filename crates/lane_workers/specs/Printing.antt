-- What contracts see of a printer's answers. All of it is profile.
use Rattle.std.specs.Prelude.{ℕ, ◌≤◌, Bool, true, false, List, ◌++◌, length, take, Result, Err}
use Rattle.lane_workers.specs.declared.printer.PrintFault.{PrintFault}
use Rattle.lane_workers.specs.declared.printer.PrintFault.TheVariants as fault
use Rattle.pq_items.specs.declared.item.Item.{Item}

-- a call of the outside failed
abbrev pub is_failed : {X : Type 0} → Result X PrintFault → Bool
is_failed (Err fault.Failed) = true
is_failed r = false

-- of each list of which the one holds, the other holds with these items after it
abbrev pub Extends : (List Item → Type 0) → List Item → (List Item → Type 0) → Type 0
Extends before items after = (h : List Item) → before h → after (h ++ items)

-- the same with the first of these items, up to one of them
abbrev pub BreaksAmong : (List Item → Type 0) → List Item → (List Item → Type 0) → Type 0
BreaksAmong before items after = (k : ℕ) × (k ≤ length items) × Extends before (take k items) after
