-- The value as a pass finds it, and as it may be given back.
use Rattle.std.specs.Prelude.{◌≡◌, ◌≢◌, ℕ, ◌<◌, ◌≤◌, length, slice_index, Some}
use Rattle.progress_words.specs.declared.answer.Closed.{Closed}
use Rattle.progress_words.specs.declared.answer.Closed.TheVariants as closed
use Rattle.progress_words.specs.declared.answer.Take.{Take}
use Rattle.progress_words.specs.declared.answer.Take.TheVariants.{Held, Busy}
use Rattle.progress_words.specs.declared.pass_view.LaneView.{LaneView}
use Rattle.progress_words.specs.declared.pass_view.PassView.{PassView}
use Rattle.progress_words.specs.declared.pass_view.ReaderView.{ReaderView}
use Rattle.progress_words.specs.declared.pass_view.Role.{Role}
use Rattle.progress_words.specs.declared.pass_view.Role.TheVariants.{Raises, Reads}
use Rattle.progress_words.specs.PassView.{lane_part}

module _ {V : Type 0} where
  -- a fact of the value, where the try found the turn free; of the word found, where it didn't
  abbrev pub IfHeld : Take V → (V → Type 0) → Type 0
  IfHeld (Held u) Fact = Fact u
  IfHeld (Busy word) Fact = Unit {0}

  abbrev pub IfBusy : Take V → (ℕ → Type 0) → Type 0
  IfBusy (Held u) Fact = Unit {0}
  IfBusy (Busy word) Fact = Fact word

  -- a fact of the value, where the turn was free at the end; of the turn word, where it wasn't
  abbrev pub IfValue : Closed V → (V → Type 0) → Type 0
  IfValue (closed.Value u) Fact = Fact u
  IfValue (closed.Held word) Fact = Unit {0}

  abbrev pub IfStillHeld : Closed V → (ℕ → Type 0) → Type 0
  IfStillHeld (closed.Value u) Fact = Unit {0}
  IfStillHeld (closed.Held word) Fact = Fact word

module _ {V : Type 0} (reach : V → ℕ → ℕ) where
  -- the lane's reach is what its pass last gave back, at first that of opening
  abbrev pub HasReachGiven : LaneView → V → Type 0
  HasReachGiven p u = reach u p.lane ≡ p.reach_given

  -- the lane's reach is at least its word
  abbrev pub ReachesWord : LaneView → V → Type 0
  ReachesWord p u = p.word ≤ reach u p.lane

  -- each lane's reach is at least the word that was last read of it
  abbrev pub ReachesReads : ReaderView → V → Type 0
  ReachesReads p u = (lane : ℕ) → lane < length p.words_read → slice_index p.words_read lane ≤ reach u lane

  -- what a pass of this role finds of the value
  pub record Covers (role : Role) (u : V) : Type 0 where
    pub own : (p : LaneView) → role ≡ Raises p → HasReachGiven p u
    pub word : (p : LaneView) → role ≡ Raises p → ReachesWord p u
    pub reads : (p : ReaderView) → role ≡ Reads p → ReachesReads p u

  -- u for t: each of n lanes reaches as far; or one lane reaches no less, and the others as far
  abbrev pub KeepsReaches : ℕ → V → V → Type 0
  KeepsReaches n t u = (lane : ℕ) → lane < n → reach u lane ≡ reach t lane

  abbrev pub RaisesReach : ℕ → ℕ → V → V → Type 0
  RaisesReach n own t u =
      ((lane : ℕ) → lane < n → lane ≢ own → reach u lane ≡ reach t lane) × (reach t own ≤ reach u own)

module _ {V N : Type 0} (reach : V → ℕ → ℕ) (name : V → N) where
  -- the reader holds a value t, and u has its name and its reaches
  abbrev pub ReaderMayGive : ℕ → V → PassView V N → Type 0
  ReaderMayGive n u v = (t : V) × (v.held_value ≡ Some t) × (name u ≡ name t) × KeepsReaches reach n t u

  -- the lane holds a value t, and u has its name and its reaches, but that its own may be greater
  abbrev pub LaneMayGive : ℕ → V → PassView V N → Type 0
  LaneMayGive n u v = (t : V) × (v.held_value ≡ Some t) × (name u ≡ name t)
      × RaisesReach reach n (lane_part v.role).lane t u

  -- a pass holds a value t, and u has its name and its reaches, but that of the pass's own lane, which may
  -- be greater
  pub record MayGive (n : ℕ) (u : V) (v : PassView V N) : Type 0 where
    pub taken : V
    pub holds : v.held_value ≡ Some taken
    pub same_name : name u ≡ name taken
    pub others : (lane : ℕ) → lane < n → ((p : LaneView) → v.role ≡ Raises p → p.lane ≢ lane)
        → reach u lane ≡ reach taken lane
    pub rises : (lane : ℕ) → lane < n → reach taken lane ≤ reach u lane
