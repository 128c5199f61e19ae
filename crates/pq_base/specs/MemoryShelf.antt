-- What contracts see of `MemShelf`, a shelf in memory (profile).
use Rattle.std.specs.Prelude.{◌≡◌, ℕ, min, Contains, IsSome, ◌&&◌, nat_lt, if◌then◌else◌, List, [], ◌∷◌, ◌++◌, length, Option, Some, None, is_some, String, string_bytes}
use Rattle.std.specs.declared.alloc.Global.{Global}
use Rattle.std.specs.declared.vec.Vec.{Vec}
use Rattle.pq_words.specs.Text.{Text}
use Rattle.pq_base.specs.declared.asked_indices.TheConstants.{MOST_TOLD}
use Rattle.pq_base.specs.Outside.{Files, file_named}

-- a file as it is handed in: the bytes of its name, and its own
abbrev pub file_view : String Global × Vec ℕ Global → Text × Text
file_view f = (string_bytes f.0, f.1.items)

pub record MemoryShelf : Type 0 where
  -- its files by name; of two files of one name the first counts
  pub files : Files
  -- the calls of open and read, counted together from 0, that fail
  pub fails : List ℕ
  -- the most bytes that one read gives, at least 1
  pub piece : ℕ
  -- the names that open was asked, in order, while each of them had a file and they were at most sixteen
  pub asked : Option (List Text)
  -- what is left of the opened file
  pub rest : Text
  -- how many calls of open and read there were
  pub calls : ℕ
  -- how many of them failed
  pub faults : ℕ

-- a shelf as it is made
abbrev pub new_shelf : Files → List ℕ → ℕ → MemoryShelf
new_shelf files fails piece =
    record { files = files; fails = fails; piece = piece; asked = Some []; rest = []; calls = 0; faults = 0 }

-- opening a file of this name fails next: the file is there, and the call is listed
abbrev pub FailsToOpen : MemoryShelf → Text → Type 0
FailsToOpen shelf name = IsSome (file_named shelf.files name) × Contains shelf.fails shelf.calls

-- how many bytes the next read into so much room gives, where it does not fail
abbrev pub read_count : MemoryShelf → ℕ → ℕ
read_count shelf room = min (min shelf.piece room) (length shelf.rest)

-- the names told after `open` was asked one more: none any longer where there is no file of it, or where it
-- is the seventeenth
abbrev pub names_after : Files → Option (List Text) → Text → Option (List Text)
names_after files None name = None
names_after files (Some names) name =
    if is_some (file_named files name) && nat_lt (length names) MOST_TOLD then Some (names ++ name ∷ [])
    else None

-- what the shelf was made of stays
abbrev pub SameShelf : MemoryShelf → MemoryShelf → Type 0
SameShelf old new = new
    ≡ record old { asked = new.asked; rest = new.rest; calls = new.calls; faults = new.faults }
