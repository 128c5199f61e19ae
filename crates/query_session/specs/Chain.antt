-- What contracts see of a chain as opening makes it.
use Rattle.std.specs.Prelude.{◌≡◌, ℕ, ◌+◌, List, [], ◌∷◌, All, None}
use Rattle.event_detect.specs.declared.limits.Limits.{Limits}
use Rattle.interval_ledger.specs.declared.ledger.Ledger.{Ledger}
use Rattle.interval_ledger.specs.declared.subject.Subject.{Subject}
use Rattle.interval_ledger.specs.Ledger.{view_of as ledger_view}
use Rattle.interval_ledger.specs.Settlement.{nothing_posted}
use Rattle.lanes.specs.Lane.{lane_count, reach}
use Rattle.pq_base.specs.Recorded.{Recorded}
use Rattle.progress_words.specs.declared.pass.LanePass.{LanePass}
use Rattle.progress_words.specs.declared.pass.ReadPass.{ReadPass}
use Rattle.progress_words.specs.declared.pass_view.PassView.{PassView}
use Rattle.progress_words.specs.declared.pass_view.Role.TheVariants.{Raises, Reads}
use Rattle.progress_words.specs.declared.shared.Shared.{Ghosts}
use Rattle.progress_words.specs.PassView.{fresh_lane, fresh_reader, idle_view}
use Rattle.progress_words.specs.Words.{opening_of}
use Rattle.query_session.specs.declared.chain.ChainOf.{ChainOf}
use Rattle.query_session.specs.declared.seat.SeatOf.{SeatOf}
use Rattle.query_session.specs.declared.session.SessionOf.{SessionOf}
use Rattle.query_session.specs.LaneSeat.{IsSeatIdle, IsSeatOf, seat_view}
use Rattle.query_session.specs.Session.{IsIdle, IsSessionOf, view_of}

-- what a recording and limits are called
abbrev pub subject : Recorded → Limits → Subject
subject r limits = record { recording = r; limits = limits }

-- the ledger that a chain over these is opened with
abbrev pub IsOpeningOf : Recorded → Limits → Ledger → Type 0
IsOpeningOf r limits value = ledger_view value ≡ nothing_posted r limits

-- the limits that a chain was opened with
abbrev pub limits_at : ChainOf Ledger Subject → Limits
limits_at chain = (ledger_view (opening_of chain.words)).limits

-- a lane's pass, and a reader's, of this recording that has done nothing
pub record IsFreshLaneOf (r : Recorded) (lane : ℕ) (v : PassView Ledger Subject) : Type 0 where
  pub recording : v.name.recording ≡ r
  pub role : v.role ≡ Raises (fresh_lane lane (reach r lane 0))
  pub held : v.held_value ≡ None

pub record IsFreshReaderOf (r : Recorded) (v : PassView Ledger Subject) : Type 0 where
  pub recording : v.name.recording ≡ r
  pub role : v.role ≡ Reads (fresh_reader (lane_count r) (lane_count r))
  pub held : v.held_value ≡ None

-- what a lane's pass, and a reader's, knows that has done nothing
abbrev pub lane_at_first : Recorded → Limits → Ledger → ℕ → PassView Ledger Subject
lane_at_first r limits opening lane =
    idle_view (subject r limits) opening (Raises (fresh_lane lane (reach r lane 0)))

abbrev pub reader_at_first : Recorded → Limits → Ledger → PassView Ledger Subject
reader_at_first r limits opening =
    idle_view (subject r limits) opening (Reads (fresh_reader (lane_count r) (lane_count r)))

module _ {g : Ghosts Ledger Subject} where
  -- the seat of a lane, which has done nothing
  pub record IsFreshSeat (chain : ChainOf Ledger Subject) (r : Recorded) (limits : Limits) (lane : ℕ)
      (s : SeatOf Ledger g) : Type 0 where
    pub mine : IsSeatOf chain s
    pub view : seat_view s ≡ lane_at_first r limits (opening_of chain.words) lane
    pub lane_is : s.lane ≡ lane
    pub count : s.count ≡ 0
    pub idle : IsSeatIdle s

  -- the seats of the lanes from this one on, in order
  abbrev pub AreFreshSeats : ChainOf Ledger Subject → Recorded → Limits → ℕ → List (SeatOf Ledger g) → Type 0
  AreFreshSeats chain r limits lane [] = Unit {0}
  AreFreshSeats chain r limits lane (s ∷ seats) =
      IsFreshSeat chain r limits lane s × AreFreshSeats chain r limits (lane + 1) seats

  -- each of these seats belongs to the chain and is idle
  abbrev pub AreReady : ChainOf Ledger Subject → List (SeatOf Ledger g) → Type 0
  AreReady chain seats = All (λ s. IsSeatOf chain s × IsSeatIdle s) seats

  -- a session that has done nothing
  pub record IsFreshSession (chain : ChainOf Ledger Subject) (r : Recorded) (limits : Limits)
      (s : SessionOf Ledger g) : Type 0 where
    pub mine : IsSessionOf chain s
    pub view : view_of s ≡ reader_at_first r limits (opening_of chain.words)
    pub cursor : s.cursor ≡ 0
    pub idle : IsIdle s

  -- the seat is made of this pass
  pub record IsSeatFrom (pass : LanePass Ledger Subject g) (lane : ℕ) (s : SeatOf Ledger g) : Type 0 where
    pub pass_is : s.pass.seat ≡ pass.seat
    pub lane_is : s.lane ≡ lane
    pub count : s.count ≡ 0
    pub idle : IsSeatIdle s

  -- the session is made of this pass
  pub record IsSessionFrom (pass : ReadPass Ledger Subject g) (s : SessionOf Ledger g) : Type 0 where
    pub pass_is : s.pass.seat ≡ pass.seat
    pub cursor : s.cursor ≡ 0
    pub idle : IsIdle s
