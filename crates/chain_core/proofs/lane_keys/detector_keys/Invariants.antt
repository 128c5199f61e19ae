use Rattle.std.proofs.Common.{◌≡◌, ◌++◌, ◌<◌, map, length, All}
use Rattle.lanes.specs.Lane.{lane_key}
use Rattle.lanes.specs.declared.lane_item.LaneItem.TheVariants as item
use Rattle.pq_base.specs.Recorded.{samples_at}
use Rattle.chain_core.proofs.lane_keys.detector_keys.Given as goal

-- the keys so far, and those of the windows that are left, which lie within the samples
abbrev pub invariant-loop-window : goal.invariant-loop-window
invariant-loop-window l = record {
  whole : l.keys.items ++ map lane_key (map item.Window l.window-iterator)
      ≡ map lane_key (map item.Window l.initial.window-iterator);
  within : All (λ w. (w.start < w.end) × (w.end < length
      (samples_at l.recording l.position))) l.window-iterator;
}
