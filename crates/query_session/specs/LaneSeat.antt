-- What contracts see of a lane's seat, and what each of its calls tells.
use Rattle.std.specs.Prelude.{◌≡◌, ◌≢◌, ℕ, ◌+◌, ◌-◌, ◌<◌, min, length}
use Rattle.interval_ledger.specs.declared.ledger.Ledger.{Ledger}
use Rattle.interval_ledger.specs.declared.subject.Subject.{Subject}
use Rattle.interval_ledger.specs.Ledger.{PostsMany, count_of, reach_of, subject_of}
use Rattle.lanes.specs.Lane.{lane_items, reach}
use Rattle.pq_base.specs.Recorded.{Recorded, sample_count}
use Rattle.progress_words.specs.declared.answer.Take.TheVariants as take
use Rattle.progress_words.specs.declared.pass_view.PassView.{PassView}
use Rattle.progress_words.specs.declared.shared.Shared.{Ghosts}
use Rattle.progress_words.specs.PassView.{after_lane_give, after_raise, after_stop_load, after_try}
use Rattle.progress_words.specs.Words.{IsLaneOf, lane_of, lane_view}
use Rattle.query_session.specs.declared.chain.ChainOf.{ChainOf}
use Rattle.query_session.specs.declared.lane_answer.Lane.{Lane}
use Rattle.query_session.specs.declared.lane_answer.Lane.TheVariants as lane
use Rattle.query_session.specs.declared.lane_answer.Taken.{Taken}
use Rattle.query_session.specs.declared.lane_answer.Taken.TheVariants as taken
use Rattle.query_session.specs.declared.seat.SeatOf.{SeatOf}
use Rattle.query_session.specs.declared.seat_stage.SeatStage.TheVariants as stage
use Rattle.query_session.specs.Bounds.{next_items}

module _ {V : Type 0} {g : Ghosts V Subject} where
  -- the seat belongs to this chain
  abbrev pub IsSeatOf : ChainOf V Subject → SeatOf V g → Type 0
  IsSeatOf chain s = IsLaneOf chain.words s.pass

  -- it is idle
  abbrev pub IsSeatIdle : SeatOf V g → Type 0
  IsSeatIdle s = s.stage ≡ stage.Idle

module _ {g : Ghosts Ledger Subject} where
  -- what a seat knows
  abbrev pub seat_view : SeatOf Ledger g → PassView Ledger Subject
  seat_view s = lane_view s.pass

  abbrev pub seat_recording : SeatOf Ledger g → Recorded
  seat_recording s = (seat_view s).name.recording

  -- how many items its lane has, and how many of them are left
  abbrev pub all_items : SeatOf Ledger g → ℕ
  all_items s = length (lane_items (seat_recording s) s.lane)

  abbrev pub items_left : SeatOf Ledger g → ℕ
  items_left s = all_items s - s.count

  -- the lane's reach, where so many items are given back as the seat gave
  abbrev pub seat_reach : SeatOf Ledger g → ℕ
  seat_reach s = reach (seat_recording s) s.lane s.count

  -- it holds the ledger; it has posted
  abbrev pub IsSeatHolding : SeatOf Ledger g → Type 0
  IsSeatHolding s = (u : Ledger) × (s.stage ≡ stage.Holding u)

  abbrev pub IsSeatPosted : SeatOf Ledger g → Type 0
  IsSeatPosted s = (k : ℕ) × (s.stage ≡ stage.Posted k)

  -- it keeps its lane's next items
  abbrev pub IsMeasured : SeatOf Ledger g → Type 0
  IsMeasured s = s.ahead.measured ≡ next_items (seat_recording s) s.lane s.count

  -- the same seat, with as many items given back
  abbrev pub IsSameSeat : SeatOf Ledger g → SeatOf Ledger g → Type 0
  IsSameSeat old new = (new.lane ≡ old.lane) × (new.count ≡ old.count)

  -- a load of the stop word and, unless it found 1, one try on the turn; the ledger taken has the seat's
  -- name, and as many items of the lane as the seat last gave back
  abbrev pub Takes : SeatOf Ledger g → SeatOf Ledger g → Taken → Type 0
  Takes old new taken.Held =
      (u : Ledger) × (new.stage ≡ stage.Holding u) × (subject_of u ≡ (seat_view old).name)
      × (count_of u old.lane ≡ old.count)
      × (seat_view new ≡ after_try (take.Held u) (after_stop_load 0 (seat_view old)))
  Takes old new (taken.Busy word) =
      (word ≢ 0) × IsSeatIdle new
      × (seat_view new ≡ after_try (take.Busy word) (after_stop_load 0 (seat_view old)))
  Takes old new taken.Halted = IsSeatIdle new × (seat_view new ≡ after_stop_load 1 (seat_view old))

  -- the lane's next items, so many or all that are left, went into the ledger, which was given back
  pub record Posts (old new : SeatOf Ledger g) (most posted : ℕ) : Type 0 where
    pub held : Ledger
    pub left : Ledger
    pub was : old.stage ≡ stage.Holding held
    pub many : posted ≡ min most (items_left old)
    pub posts : PostsMany held left old.lane posted
    pub view : seat_view new ≡ after_lane_give reach_of left (seat_view old)
    pub lane : new.lane ≡ old.lane
    pub count : new.count ≡ old.count + posted
    pub stage_is : new.stage ≡ stage.Posted posted

  -- the word was raised to the lane's reach: that of the end exactly where nothing is left
  abbrev pub Raises : SeatOf Ledger g → SeatOf Ledger g → Lane → Type 0
  Raises old new (lane.More k word) =
      (old.stage ≡ stage.Posted k) × (old.count < all_items old) × (word ≡ seat_reach old)
      × (seat_view new ≡ after_raise word (seat_view old))
  Raises old new (lane.Done k word) =
      (old.stage ≡ stage.Posted k) × (old.count ≡ all_items old)
      × (word ≡ sample_count (seat_recording old)) × (seat_view new ≡ after_raise word (seat_view old))
  Raises old new _ = ⊥

  -- so many of the next items are posted, and the word is raised
  pub record Moves (old new : SeatOf Ledger g) (most posted word : ℕ) : Type 0 where
    pub many : posted ≡ min most (items_left old)
    pub lane : new.lane ≡ old.lane
    pub count : new.count ≡ old.count + posted
    pub reached : word ≡ seat_reach new
    pub raised : (lane_of new.pass).word ≡ word

  -- the three calls: nothing was done, or the next items are posted and the word is the lane's reach
  abbrev pub Steps : SeatOf Ledger g → SeatOf Ledger g → ℕ → Lane → Type 0
  Steps old new most (lane.More k word) = Moves old new most k word × (new.count < all_items old)
  Steps old new most (lane.Done k word) =
      Moves old new most k word × (new.count ≡ all_items old)
      × (word ≡ sample_count (seat_recording old))
  Steps old new most (lane.Busy word) =
      (word ≢ 0) × IsSameSeat old new
      × (seat_view new ≡ after_try (take.Busy word) (after_stop_load 0 (seat_view old)))
  Steps old new most lane.Halted =
      IsSameSeat old new × (seat_view new ≡ after_stop_load 1 (seat_view old))
