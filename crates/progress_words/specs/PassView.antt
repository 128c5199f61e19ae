-- What contracts see of a pass, and what each step makes of it.
use Rattle.std.specs.Prelude.{◌≡◌, ℕ, ◌+◌, Bool, if◌then◌else◌, List, [], ◌∷◌, replicate, slice_index, slice_set, Option, Some, None, true, false}
use Rattle.progress_words.specs.declared.answer.Take.{Take}
use Rattle.progress_words.specs.declared.answer.Take.TheVariants.{Held, Busy}
use Rattle.progress_words.specs.declared.pass_view.LaneView.{LaneView}
use Rattle.progress_words.specs.declared.pass_view.PassView.{PassView}
use Rattle.progress_words.specs.declared.pass_view.ReaderView.{ReaderView}
use Rattle.progress_words.specs.declared.pass_view.Role.{Role}
use Rattle.progress_words.specs.declared.pass_view.Role.TheVariants.{Raises, Reads}

-- a reader that has read nothing of so many lanes, where so many passes of lanes were made
abbrev pub fresh_reader : ℕ → ℕ → ReaderView
fresh_reader lanes made = record {
  words_read = replicate lanes 0;
  loads = replicate lanes 0;
  lanes_made = made;
  splits = 0;
  wrote_stop = false;
}

-- a lane that has raised nothing, with its reach at opening
abbrev pub fresh_lane : ℕ → ℕ → LaneView
fresh_lane lane reach = record { lane = lane; word = 0; reach_given = reach }

-- what a reader's pass has read; and what a lane's pass knows of its lane
abbrev pub reader_part : Role → ReaderView
reader_part (Reads p) = p
reader_part (Raises p) = fresh_reader 0 0

abbrev pub lane_part : Role → LaneView
lane_part (Raises p) = p
lane_part (Reads p) = fresh_lane 0 0

-- a reader after it has loaded this word of this lane
abbrev pub with_load : ℕ → ℕ → ReaderView → ReaderView
with_load lane word p = record p {
  words_read = slice_set p.words_read lane word;
  loads = slice_set p.loads lane (slice_index p.loads lane + 1);
}

-- a reader that was never split and hasn't written the stop word
abbrev pub IsAlone : ReaderView → Type 0
IsAlone p = (p.splits ≡ 0) × (p.wrote_stop ≡ false)

-- the stop word, where it is 1 or not
abbrev pub bit_of : Bool → ℕ
bit_of b = if b then 1 else 0

-- the slots that are out with a pass that holds a value; they have none in its place
abbrev pub taken_slots : {V : Type 0} → Option V → List (ℕ × Option V)
taken_slots None = []
taken_slots (Some u) = (0, None) ∷ []

module _ {V N : Type 0} where
  -- a pass of this name and role that holds nothing and has tried nothing
  abbrev pub idle_view : N → V → Role → PassView V N
  idle_view name opening role = record {
    name = name;
    opening = opening;
    role = role;
    held_value = None;
    given_value = None;
    tries = 0;
    turn_found = 0;
    stop_loads = 0;
    stop_found = 0;
  }

  -- the first pass, a reader's
  abbrev pub first_view : ℕ → (V → N) → V → PassView V N
  first_view lanes name opening = idle_view (name opening) opening (Reads (fresh_reader lanes 0))

  -- after the word of the pass's lane was raised
  abbrev pub after_raise : ℕ → PassView V N → PassView V N
  after_raise word v = record v { role = Raises (record (lane_part v.role) { word = word }) }

  -- after the word of a lane was loaded
  abbrev pub after_load : ℕ → ℕ → PassView V N → PassView V N
  after_load lane word v = record v { role = Reads (with_load lane word (reader_part v.role)) }

  -- after one try on the turn
  abbrev pub after_try : Take V → PassView V N → PassView V N
  after_try (Held u) v = record v { held_value = Some u; tries = v.tries + 1; turn_found = 0 }
  after_try (Busy word) v = record v { tries = v.tries + 1; turn_found = word }

  -- after a reader gave a value back
  abbrev pub after_give : V → PassView V N → PassView V N
  after_give u v = record v { held_value = None; given_value = Some u }

  -- after a lane gave a value back
  abbrev pub after_lane_give : (V → ℕ → ℕ) → V → PassView V N → PassView V N
  after_lane_give reach u v = let p = lane_part v.role in
      record (after_give u v) { role = Raises (record p { reach_given = reach u p.lane }) }

  -- after the stop word was written
  abbrev pub after_stop : PassView V N → PassView V N
  after_stop v = record v { role = Reads (record (reader_part v.role) { wrote_stop = true }) }

  -- after the stop word was loaded, with what this found
  abbrev pub after_stop_load : ℕ → PassView V N → PassView V N
  after_stop_load found v = record v { stop_loads = v.stop_loads + 1; stop_found = found }

  -- after the pass was split; and the pass that the split makes
  abbrev pub after_split : PassView V N → PassView V N
  after_split v = let p = reader_part v.role in
      record v { role = Reads (record p { splits = p.splits + 1 }) }

  abbrev pub split_view : PassView V N → PassView V N
  split_view v = let p = reader_part v.role in
      idle_view v.name v.opening (Reads (record p { splits = p.splits + 1; wrote_stop = false }))

  -- after the pass of the next lane was made; and that pass
  abbrev pub after_lane : PassView V N → PassView V N
  after_lane v = let p = reader_part v.role in
      record v { role = Reads (record p { lanes_made = p.lanes_made + 1 }) }

  abbrev pub next_lane_view : (V → ℕ → ℕ) → PassView V N → PassView V N
  next_lane_view reach v = let lane = (reader_part v.role).lanes_made in
      idle_view v.name v.opening (Raises (fresh_lane lane (reach v.opening lane)))
