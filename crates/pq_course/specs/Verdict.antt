-- The order of refusals as a course: what is judged before each file, and what with its bytes (profile).
use Rattle.std.specs.Prelude.{◌≡◌, ℕ, nat_le, if◌then◌else◌, List, [], ◌∷◌, ◌++◌, length, Option, Some, None, ⊤}
use Rattle.pq_words.specs.Text.{Text}
use Rattle.pq_base.specs.Outside.{Files, file_named}

-- a refusal, or a job, which is the text that is to be written
pub data Outcome (S : Type 0) : Type 0 where
  Refused : S → Outcome S
  Job : Text → Outcome S

-- a course ends, or asks for a file by its name and goes on with the file's bytes, or with none where it
-- isn't there
pub data Course (S : Type 0) : Type 0 where
  Ends : Outcome S → Course S
  Asks : Text → (Option Text → Course S) → Course S

-- the verdict on told files; there is one without them only where no file is asked for
abbrev pub verdict : {S : Type 0} → Course S → Option Files → Option (Outcome S)
verdict (Ends outcome) files = Some outcome
verdict (Asks name go) None = None
verdict (Asks name go) (Some files) = verdict (go (file_named files name)) (Some files)

-- what is found under a name: what the told files have there, and anything where they aren't told
abbrev pub Finds : Option Files → Text → Option Text → Type 0
Finds None name found = ⊤
Finds (Some files) name found = file_named files name ≡ found

-- over these files the course asks for these names, one after another, and then it ends
abbrev pub AsksAll : {S : Type 0} → Course S → Option Files → List Text → Type 0
AsksAll (Ends outcome) files names = names ≡ []
AsksAll (Asks name go) files names =
    (found : Option Text) × (later : List Text)
    × Finds files name found × (names ≡ name ∷ later) × AsksAll (go found) files later

-- over these files the course asks for these names first, and maybe for later ones. So each of them is one of
-- its words, and no refusal stands before the reading of it
abbrev pub AsksFront : {S : Type 0} → Course S → Option Files → List Text → Type 0
AsksFront course files names = (later : List Text) × AsksAll course files (names ++ later)

-- a file that is missing is refused, one of more bytes than its limit too, and else the course goes on with
-- its bytes
abbrev pub with_file : {S : Type 0} → S → S → ℕ → (Text → Course S) → Option Text → Course S
with_file missing over limit go None = Ends (Refused missing)
with_file missing over limit go (Some bytes) =
    if nat_le (length bytes) limit then go bytes else Ends (Refused over)
