-- What holds of a seat and of a session as a driver keeps them: they belong to the chain, and are at what
-- their phase says.
use Rattle.std.specs.Prelude.{ℕ, ◌≤◌, All}
use Rattle.chain_core.specs.declared.phase.LanePhase.{LanePhase}
use Rattle.chain_core.specs.declared.phase.LanePhase.TheVariants as lane
use Rattle.chain_core.specs.declared.phase.SessionPhase.{SessionPhase}
use Rattle.chain_core.specs.declared.phase.SessionPhase.TheVariants as session
use Rattle.interval_ledger.specs.declared.ledger.Ledger.{Ledger}
use Rattle.interval_ledger.specs.declared.subject.Subject.{Subject}
use Rattle.progress_words.specs.declared.shared.Shared.{Ghosts}
use Rattle.query_session.specs.declared.chain.ChainOf.{ChainOf}
use Rattle.query_session.specs.declared.seat.SeatOf.{SeatOf}
use Rattle.query_session.specs.declared.session.SessionOf.{SessionOf}
use Rattle.query_session.specs.LaneSeat.{IsSeatHolding, IsSeatIdle, IsSeatOf, IsSeatPosted}
use Rattle.query_session.specs.Session.{IsHolding, IsIdle, IsLooked, IsSessionOf}
use Rattle.worked_chain.specs.declared.chain_driver.ChainDriver.{ChainDriver}
use Rattle.worked_chain.specs.declared.lane_driver.LaneDriver.{LaneDriver}
use Rattle.worked_chain.specs.declared.session_driver.SessionDriver.{SessionDriver}

-- so many items may be posted at most
abbrev pub IsMost : ℕ → Type 0
IsMost most = (1 ≤ most) × (most ≤ 64)

module _ {g : Ghosts Ledger Subject} where
  -- the seat is at what the phase says
  abbrev pub IsSeatAt : LanePhase → SeatOf Ledger g → Type 0
  IsSeatAt lane.Idle s = IsSeatIdle s
  IsSeatAt lane.Holding s = IsSeatHolding s
  IsSeatAt lane.Posted s = IsSeatPosted s

  -- and the session; none is looking between calls
  abbrev pub IsSessionAt : SessionPhase → SessionOf Ledger g → Type 0
  IsSessionAt session.Idle s = IsIdle s
  IsSessionAt session.Looking s = ⊥
  IsSessionAt session.Looked s = IsLooked s
  IsSessionAt session.Holding s = IsHolding s

-- a lane's driver, a session's, and all of them
abbrev pub IsLaneDriverOf : ChainOf Ledger Subject → LaneDriver → Type 0
IsLaneDriverOf chain d = IsSeatOf chain d.seat × IsSeatAt d.phase d.seat

abbrev pub IsSessionDriverOf : ChainOf Ledger Subject → SessionDriver → Type 0
IsSessionDriverOf chain d = IsSessionOf chain d.session × IsSessionAt d.phase d.session

abbrev pub AreDriversOf : ChainOf Ledger Subject → ChainDriver → Type 0
AreDriversOf chain d =
    All (IsLaneDriverOf chain) d.lanes.items × All (IsSessionDriverOf chain) d.sessions.items
