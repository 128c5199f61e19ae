-- What contracts see of `LaneSource`: the list of the items that are left.
use Rattle.std.specs.Prelude.{List, map}
use Rattle.lane_sources.specs.declared.lane_kind.LaneKind.{LaneKind}
use Rattle.lane_sources.specs.declared.lane_kind.LaneKind.TheVariants as kind
use Rattle.lanes.specs.declared.lane_item.LaneItem.{LaneItem}
use Rattle.lanes.specs.declared.lane_item.LaneItem.TheVariants as item

-- the items that are left of a lane
abbrev pub items_left : LaneKind → List LaneItem
items_left (kind.Sampler values) = values
items_left (kind.Detector windows) = map item.Window windows
items_left (kind.Frequency readings) = map item.Reading readings
