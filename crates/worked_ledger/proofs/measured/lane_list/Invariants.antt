use Rattle.std.proofs.Common.{◌≡◌, ◌++◌}
use Rattle.lanes.specs.Lane.{lane_items}
use Rattle.worked_ledger.proofs.measured.lane_list.Given as goal

-- the items so far, and those that are left
abbrev pub invariant-loop-item : goal.invariant-loop-item
invariant-loop-item l = l.items.items ++ l.item-iterator ≡ lane_items l.sources l.lane
