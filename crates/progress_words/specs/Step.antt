-- What each kind of atomic step tells the pass that makes it.
-- A pass of the table is its view and the slots that are out with it.
use Rattle.std.specs.Prelude.{◌≡◌, ◌≢◌, ℕ, ◌≤◌, [], ◌∷◌, slice_index, Option, Some, true}
use Rattle.atomic_table.specs.Table.{Me, Step}
use Rattle.progress_words.specs.declared.answer.Take.TheVariants.{Held, Busy}
use Rattle.progress_words.specs.declared.pass_view.PassView.{PassView}
use Rattle.progress_words.specs.declared.pass_view.ReaderView.{ReaderView}
use Rattle.progress_words.specs.declared.pass_view.Role.{Role}
use Rattle.progress_words.specs.declared.pass_view.Role.TheVariants.{Raises, Reads}
use Rattle.progress_words.specs.PassView.{IsAlone, reader_part, after_load, after_raise, after_try, after_give, after_stop, after_stop_load}
use Rattle.progress_words.specs.Turn.{Covers}

-- the role after a value was given back
abbrev pub role_after_give : {V : Type 0} → (V → ℕ → ℕ) → V → Role → Role
role_after_give reach u (Raises p) = Raises (record p { reach_given = reach u p.lane })
role_after_give reach u (Reads p) = Reads p

-- what a pass knows after it gave a value back
abbrev pub after_turn : {V N : Type 0} → (V → ℕ → ℕ) → V → PassView V N → PassView V N
after_turn reach u v = record (after_give u v) { role = role_after_give reach u v.role }

-- a pass as the table has it
abbrev pub Pass : Type 0 → Type 0 → Type 0
Pass V N = Me (Option V) (PassView V N)

module _ {V N : Type 0} where
  -- the load of a lane's word
  abbrev pub LoadsWord : Step (Option V) → Pass V N → ℕ → Pass V N → Type 0
  LoadsWord step old found new = (new ≡ (after_load step.word found old.0, old.1))
      × (slice_index (reader_part old.0.role).words_read step.word ≤ found)

  -- the raise of a lane's word
  abbrev pub RaisesWord : Step (Option V) → Pass V N → ℕ → Pass V N → Type 0
  RaisesWord step old _ new = new ≡ (after_raise step.first old.0, old.1)

  -- one try on the turn
  abbrev pub TriesTurn : (V → ℕ → ℕ) → (V → N) → Step (Option V) → Pass V N → ℕ → Pass V N → Type 0
  TriesTurn reach name step old found new =
      (found ≡ 0 → (u : V) × (new ≡ (after_try (Held u) old.0, (0, Some u) ∷ old.1)) × (name u ≡ old.0.name)
      × Covers reach old.0.role u)
      × (found ≢ 0 → new ≡ (after_try (Busy found) old.0, old.1))

  -- the turn given back, with the value that lies in the slot
  abbrev pub GivesTurn : (V → ℕ → ℕ) → Step (Option V) → Pass V N → ℕ → Pass V N → Type 0
  GivesTurn reach step old _ new = (u : V) → old.1 ≡ (0, Some u) ∷ []
      → new ≡ (after_turn reach u old.0, [])

  -- the stop word written
  abbrev pub WritesStop : Step (Option V) → Pass V N → ℕ → Pass V N → Type 0
  WritesStop step old _ new = new ≡ (after_stop old.0, old.1)

  -- what a pass finds in the stop word: 0 or 1; 1 where it found 1 before or wrote it; 0 where it is alone
  pub record FindsStop (v : PassView V N) (found : ℕ) : Type 0 where
    pub bit : found ≤ 1
    pub again : v.stop_found ≡ 1 → found ≡ 1
    pub wrote : (p : ReaderView) → v.role ≡ Reads p → p.wrote_stop ≡ true → found ≡ 1
    pub alone : (p : ReaderView) → v.role ≡ Reads p → IsAlone p → found ≡ 0

  -- the load of the stop word
  abbrev pub LoadsStop : Step (Option V) → Pass V N → ℕ → Pass V N → Type 0
  LoadsStop step old found new = (new ≡ (after_stop_load found old.0, old.1)) × FindsStop old.0 found
