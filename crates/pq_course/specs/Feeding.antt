-- What feeding a reader with the dat that words name promises (profile).
use Rattle.std.specs.Prelude.{◌≡◌, ℕ, ◌≤◌, length, Option, IfSome, Result, Ok, Err}
use Rattle.comtrade_dat.specs.DatReader.{DatReading, FeedsOn}
use Rattle.pq_base.specs.Outside.{Files, Holds}
use Rattle.pq_course.specs.InputFile.{asks_for}
use Rattle.pq_course.specs.Parts.{HasBytes, IsRead}
use Rattle.pq_course.specs.TopCall.{Reading}
use Rattle.pq_course.specs.Verdict.{Course}
use Rattle.pq_course.specs.declared.input_file.InputFile.TheVariants as file
use Rattle.pq_words.specs.Text.{Text}
use Rattle.status_text.specs.declared.status.Status.{Status}

-- a reader was fed the file of this name, where the files are told, which is within the limit
pub record FeedsFile (files : Option Files) (name : Text) (limit : ℕ) (old new : DatReading) : Type 0 where
  pub bytes : Text
  pub within : length bytes ≤ limit
  pub held : Holds files name bytes
  pub fed : FeedsOn old bytes new

-- the same of what is left of a file, where it is told
pub record FeedsRest (rest : Option Text) (limit : ℕ) (old new : DatReading) : Type 0 where
  pub bytes : Text
  pub within : length bytes ≤ limit
  pub held : IfSome rest (λ bs. bs ≡ bytes)
  pub fed : FeedsOn old bytes new

-- the dat of this name was read, and the reader has been fed it, after what it had been fed before
pub record HasFed (name : Text) (old new : DatReading) (r : Reading) : Type 0 where
  pub bytes : Text
  pub read : HasBytes file.Dat name r bytes
  pub fed : FeedsOn old bytes new

-- what feeding with a dat gives: it was fed, or the status of any course that asks for it
abbrev pub IsDatFed : Text → DatReading → DatReading → Reading → Result (Unit {0}) Status → Type 0
IsDatFed name old new r (Ok done) = HasFed name old new r
IsDatFed name old new r (Err s) = (go : Text → Course Status) → IsRead (asks_for file.Dat name go) r (Err s)
