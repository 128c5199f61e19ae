-- What a session keeps of its look, and of the ledger that it holds.
use Rattle.std.specs.Prelude.{◌≡◌, ℕ, ◌<◌, ◌≤◌, List, length, slice_index, Option, Some, None}
use Rattle.query_session.specs.declared.stage.Stage.{Stage}
use Rattle.query_session.specs.declared.stage.Stage.TheVariants.{Idle, Looked, Holding}
use Rattle.query_session.specs.Least.{IsLeast}

-- the ledger of a stage that holds one
abbrev pub held_in : {V : Type 0} → Stage V → Option V
held_in (Holding lane word ledger) = Some ledger
held_in _ = None

-- the lane and the word seen, of a stage after the look
abbrev pub seen_in : {V : Type 0} → Stage V → Option (ℕ × ℕ)
seen_in Idle = None
seen_in (Looked lane word) = Some (lane, word)
seen_in (Holding lane word ledger) = Some (lane, word)

-- what was seen is the least of the words read
abbrev pub HasSeen : {V : Type 0} → Stage V → List ℕ → Type 0
HasSeen stage words =
    (lane word : ℕ) → seen_in stage ≡ Some (lane, word) → IsLeast (length words) words lane word

module _ {V N : Type 0} (reach : V → ℕ → ℕ) (name : V → N) where
  -- the value has this name, and reaches in each lane at least as far as the word read of it
  abbrev pub CoversReads : V → N → List ℕ → Type 0
  CoversReads u of words =
      (name u ≡ of) × ((k : ℕ) → k < length words → slice_index words k ≤ reach u k)

  -- the value that a stage holds, if it holds one, has the name of the pass and covers each word read
  abbrev pub MayAdvance : Stage V → N → List ℕ → Type 0
  MayAdvance stage of words = (u : V) → held_in stage ≡ Some u → CoversReads u of words
