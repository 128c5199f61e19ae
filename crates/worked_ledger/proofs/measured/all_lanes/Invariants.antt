use Rattle.std.proofs.Common.{◌≡◌, map}
use Rattle.lanes.specs.Lane.{lane_items}
use Rattle.pq_words.specs.Steps.{numbers_below}
use Rattle.worked_ledger.proofs.measured.all_lanes.Given as goal

-- the items of the lanes so far
abbrev pub invariant-loop-lane : goal.invariant-loop-lane
invariant-loop-lane l = map (λ items. items.items) l.lanes.items
    ≡ map (lane_items l.recording) (numbers_below l.lane)
