-- What a lane's seat keeps of the ledger that it holds, and of its next items.
use Rattle.std.specs.Prelude.{◌≡◌, ℕ, List, [], Option, Some, None}
use Rattle.lanes.specs.declared.lane_item.LaneItem.{LaneItem}
use Rattle.query_session.specs.declared.seat_stage.SeatStage.{SeatStage}
use Rattle.query_session.specs.declared.seat_stage.SeatStage.TheVariants.{Holding, Posted}
use Rattle.query_session.specs.Ahead.{AheadView}

-- the ledger of a stage that holds one
abbrev pub ledger_in : {V : Type 0} → SeatStage V → Option V
ledger_in (Holding ledger) = Some ledger
ledger_in _ = None

-- how many items the last post posted, of a stage after it
abbrev pub posted_in : {V : Type 0} → SeatStage V → Option ℕ
posted_in (Posted count) = Some count
posted_in _ = None

-- the value held has the seat's name, and the reach of the lane that the seat last gave back
abbrev pub MayPost : {V N : Type 0} → (V → ℕ → ℕ) → (V → N) → SeatStage V → N → ℕ → ℕ → Type 0
MayPost {V} reach name stage of lane given =
    (u : V) → ledger_in stage ≡ Some u → (name u ≡ of) × (reach u lane ≡ given)

-- a holding seat has measured these
abbrev pub HasMeasured : {V : Type 0} → SeatStage V → AheadView → List LaneItem → Type 0
HasMeasured {V} stage ahead next = (u : V) → ledger_in stage ≡ Some u → ahead.measured ≡ next

-- a posted seat has the next item measured, if there is one
abbrev pub IsReady : {V : Type 0} → SeatStage V → AheadView → Type 0
IsReady stage ahead = (k : ℕ) → posted_in stage ≡ Some k → ahead.measured ≡ [] → ahead.unmeasured ≡ []
