-- What contracts see of words and of the passes that belong to them.
use Rattle.std.specs.Prelude.{◌≡◌, ◌≢◌, ◌≤◌, ℕ, ◌+◌, List, [], ◌∷◌}
use Rattle.progress_words.specs.declared.pass.LanePass.{LanePass}
use Rattle.progress_words.specs.declared.pass.ReadPass.{ReadPass}
use Rattle.progress_words.specs.declared.pass.Words.{Words}
use Rattle.progress_words.specs.declared.pass_view.LaneView.{LaneView}
use Rattle.progress_words.specs.declared.pass_view.PassView.{PassView}
use Rattle.progress_words.specs.declared.pass_view.ReaderView.{ReaderView}
use Rattle.progress_words.specs.declared.pass_view.Role.TheVariants.{Raises, Reads}
use Rattle.progress_words.specs.declared.shared.Shared.{Ghosts}
use Rattle.progress_words.specs.PassView.{lane_part, reader_part, fresh_lane, fresh_reader, idle_view}

module _ {V N : Type 0} where
  -- the number of lanes; the value at opening
  abbrev pub lanes_of : Words V N → ℕ
  lanes_of words = words.count

  abbrev pub opening_of : Words V N → V
  opening_of words = words.board.shared.key.value.value

  -- the words of a value with so many lanes
  abbrev pub IsOpenedOn : ℕ → V → Words V N → Type 0
  IsOpenedOn lanes value words = (lanes_of words ≡ lanes) × (opening_of words ≡ value)

-- the number of a pass in the turn word, where there are so many lanes: not 0, and at most a reader's
abbrev pub IsNumber : ℕ → ℕ → Type 0
IsNumber lanes word = (word ≢ 0) × (word ≤ lanes + 1)

module _ {V N : Type 0} {g : Ghosts V N} where
  -- what a lane's pass knows, and of its lane
  abbrev pub lane_view : LanePass V N g → PassView V N
  lane_view pass = pass.seat.me.0

  abbrev pub lane_of : LanePass V N g → LaneView
  lane_of pass = lane_part (lane_view pass).role

  -- what a reader's pass knows, and what it has read
  abbrev pub read_view : ReadPass V N g → PassView V N
  read_view pass = pass.seat.me.0

  abbrev pub reader_of : ReadPass V N g → ReaderView
  reader_of pass = reader_part (read_view pass).role

  -- the pass belongs to these words
  abbrev pub IsLaneOf : Words V N → LanePass V N g → Type 0
  IsLaneOf words pass = pass.seat.table_id ≡ words.board.shared.table_id

  abbrev pub IsReaderOf : Words V N → ReadPass V N g → Type 0
  IsReaderOf words pass = pass.seat.table_id ≡ words.board.shared.table_id

  -- the pass belongs to the words of the old one, and knows what a step makes of what that one knew
  abbrev pub LaneKnows : LanePass V N g → LanePass V N g → (PassView V N → PassView V N) → Type 0
  LaneKnows old new after = (new.seat.table_id ≡ old.seat.table_id)
      × (lane_view new ≡ after (lane_view old))

  abbrev pub ReaderKnows : ReadPass V N g → ReadPass V N g → (PassView V N → PassView V N) → Type 0
  ReaderKnows old new after = (new.seat.table_id ≡ old.seat.table_id)
      × (read_view new ≡ after (read_view old))

  -- the pass of a lane as opening makes it
  abbrev pub IsFreshLane : Words V N → V → ℕ → LanePass V N g → Type 0
  IsFreshLane words value lane pass = IsLaneOf words pass
      × (lane_view pass ≡ idle_view (g.name value) value (Raises (fresh_lane lane (g.reach value lane))))

  -- the passes of the lanes from this one on as opening makes them, in order
  abbrev pub AreFreshLanes : Words V N → V → ℕ → List (LanePass V N g) → Type 0
  AreFreshLanes words value lane [] = Unit {0}
  AreFreshLanes words value lane (pass ∷ passes) =
      IsFreshLane words value lane pass × AreFreshLanes words value (lane + 1) passes

  -- the pass of the first reader, after so many passes of lanes were made
  abbrev pub IsFreshReader : Words V N → V → ℕ → ReadPass V N g → Type 0
  IsFreshReader words value made pass = IsReaderOf words pass
      × (read_view pass ≡ idle_view (g.name value) value (Reads (fresh_reader (lanes_of words) made)))
