-- What the rule of the words speaks of: the words of the table, its passes, each in a seat, and what stands
-- behind the words.
use Rattle.std.specs.Prelude.{◌≡◌, ℕ, ◌+◌, List, slice_index, Option, Some, true}
use mathlib.Core.Option.{some}
use lib.ListN.{get_elem?}
use Rattle.atomic_table.specs.Table.{State}
use Rattle.progress_words.specs.declared.pass_view.LaneView.{LaneView}
use Rattle.progress_words.specs.declared.pass_view.PassView.{PassView}
use Rattle.progress_words.specs.declared.pass_view.ReaderView.{ReaderView}
use Rattle.progress_words.specs.declared.pass_view.Role.{Role}
use Rattle.progress_words.specs.declared.pass_view.Role.TheVariants.{Raises, Reads}

-- the number of a pass in the turn word: its lane plus 1, or for a reader the number of lanes plus 1
abbrev pub number_of : ℕ → Role → ℕ
number_of n (Raises p) = p.lane + 1
number_of n (Reads p) = n + 1

-- the word of a lane, the turn word and the stop word
module _ {V N : Type 0} where
  abbrev pub word_of : State (Option V) (PassView V N) → ℕ → ℕ
  word_of s lane = slice_index s.words lane

  abbrev pub turn_word : ℕ → State (Option V) (PassView V N) → ℕ
  turn_word n s = slice_index s.words n

  abbrev pub stop_word : ℕ → State (Option V) (PassView V N) → ℕ
  stop_word n s = slice_index s.words (n + 1)

module _ {V N : Type 0} (views : List (PassView V N)) where
  -- a fact of each pass and its seat; of each lane's pass; of each reader's pass
  abbrev pub EachPass : (ℕ → PassView V N → Type 0) → Type 0
  EachPass Fact = (seat : ℕ) (v : PassView V N) → get_elem? views seat ≡ some v → Fact seat v

  abbrev pub EachLane : (ℕ → LaneView → Type 0) → Type 0
  EachLane Fact = EachPass (λ seat v. (p : LaneView) → v.role ≡ Raises p → Fact seat p)

  abbrev pub EachReader : (ℕ → ReaderView → Type 0) → Type 0
  EachReader Fact = EachPass (λ seat v. (p : ReaderView) → v.role ≡ Reads p → Fact seat p)

  -- the seat is that of a pass of this lane
  pub record IsSeatOfLane (seat lane : ℕ) : Type 0 where
    pub view : PassView V N
    pub part : LaneView
    pub at : get_elem? views seat ≡ some view
    pub raises : view.role ≡ Raises part
    pub of_lane : part.lane ≡ lane

  -- the seat is that of a pass that holds this value and has this number in the turn word
  pub record IsSeatOfHolder (n seat : ℕ) (value : V) (number : ℕ) : Type 0 where
    pub view : PassView V N
    pub at : get_elem? views seat ≡ some view
    pub holds : view.held_value ≡ Some value
    pub numbered : number ≡ number_of n view.role

  -- some reader wrote the stop word
  pub record IsStopWritten : Type 0 where
    pub seat : ℕ
    pub view : PassView V N
    pub part : ReaderView
    pub at : get_elem? views seat ≡ some view
    pub reads : view.role ≡ Reads part
    pub wrote : part.wrote_stop ≡ true

-- what stands behind the words: how many passes of lanes were made, and the seat of each lane's; the value,
-- at home or as its holder took it, and the holder's seat
pub record Standing (V : Type 0) : Type 0 where
  pub lanes_made : ℕ
  pub seat_of : ℕ → ℕ
  pub value : V
  pub holder : ℕ
