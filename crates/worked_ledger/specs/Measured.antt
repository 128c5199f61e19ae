-- What contracts see of `Measured`: the recording whose lanes it holds.
use Rattle.std.specs.Prelude.{◌≡◌, List, map, Result, IfOk}
use Rattle.std.specs.declared.alloc.Global.{Global}
use Rattle.std.specs.declared.vec.Vec.{Vec}
use Rattle.interval_ledger.specs.declared.ledger.Ledger.{Ledger}
use Rattle.interval_ledger.specs.Ledger.{view_of}
use Rattle.lanes.specs.declared.lane_item.LaneItem.{LaneItem}
use Rattle.lanes.specs.Lane.{lane_count, lane_items}
use Rattle.pq_base.specs.Recorded.{Recorded}
use Rattle.pq_words.specs.Steps.{numbers_below}

-- they are the items of the recording's lanes, by lane
abbrev pub AreLanes : Recorded → List (Vec LaneItem Global) → Type 0
AreLanes r lanes = map (λ items. items.items) lanes ≡ map (lane_items r) (numbers_below (lane_count r))

-- a call that succeeds gives those
abbrev pub GivesLanes : {E : Type 0} → Result (Vec (Vec LaneItem Global) Global) E → Recorded → Type 0
GivesLanes result r = IfOk result (λ lanes. AreLanes r lanes.items)

-- a ledger is that of a recording
abbrev pub IsOf : Ledger → Recorded → Type 0
IsOf ledger r = (view_of ledger).recording ≡ r
