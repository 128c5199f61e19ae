use Rattle.std.proofs.Common.{◌≡◌, ◌++◌, map}
use Rattle.lanes.specs.Lane.{lane_key}
use Rattle.lanes.specs.declared.lane_item.LaneItem.TheVariants as item
use Rattle.chain_core.proofs.lane_keys.frequency_keys.Given as goal

-- the keys so far, and those of the readings that are left
abbrev pub invariant-loop-reading : goal.invariant-loop-reading
invariant-loop-reading l = l.keys.items ++ map lane_key (map item.Reading l.reading-iterator)
    ≡ map lane_key (map item.Reading l.initial.reading-iterator)
