-- What contracts see of the items of a lane that are not posted: some are measured, in order, and the others
-- come after them.
use Rattle.std.specs.Prelude.{◌≡◌, ℕ, ◌-◌, ◌≤◌, List, ◌++◌, slice_get, Some}
use Rattle.std.specs.Option.{option_map_or}
use Rattle.interval_ledger.specs.declared.ledger.Ledger.{Ledger}
use Rattle.interval_ledger.specs.Ledger.{IsNextItem}
use Rattle.lanes.specs.declared.lane_item.LaneItem.{LaneItem}
use Rattle.lanes.specs.Lane.{lane_key}

pub record AheadView : Type 0 where
  pub measured : List LaneItem
  pub unmeasured : List LaneItem

-- all that are left
abbrev pub items_left : AheadView → List LaneItem
items_left a = a.measured ++ a.unmeasured

-- the reach where these are the next items, in so many samples: the first key less one, or all samples
abbrev pub reach_before : ℕ → List LaneItem → ℕ
reach_before samples items = option_map_or (λ i. lane_key i - 1) (slice_get items 0) samples

-- the first of these, if there is one, is the lane's next item
abbrev pub IsFirstNext : Ledger → ℕ → List LaneItem → Type 0
IsFirstNext u lane items = (i : LaneItem) → slice_get items 0 ≡ Some i → IsNextItem u lane i

-- their keys are at least 1, and at most so many samples
abbrev pub AreKeys : ℕ → List LaneItem → Type 0
AreKeys samples items = (k : ℕ) (i : LaneItem) → slice_get items k ≡ Some i
    → (1 ≤ lane_key i) × (lane_key i ≤ samples)
