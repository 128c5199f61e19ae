-- The parts of a top call: reading, which gives the text of the job or a status, and then writing (profile).
use Rattle.std.specs.Prelude.{◌≡◌, ℕ, ◌≤◌, true, false, List, [], ◌∷◌, length, Option, IfSome, Result, Ok, Err}
use Rattle.pq_base.specs.Causes.{CountsOnce, Rose}
use Rattle.pq_base.specs.Outside.{HasAsked, Holds}
use Rattle.pq_course.specs.InputFile.{asks_for, limit_of}
use Rattle.pq_course.specs.TopCall.{Reading, Writing, HasAskedAll, HasTaken, HasTakenFront, HasTakenNothing, IsTopCall}
use Rattle.pq_course.specs.Verdict.{Course, Job, verdict}
use Rattle.pq_course.specs.declared.input_file.InputFile.{InputFile}
use Rattle.status_text.specs.declared.status.Status.{Status}
use Rattle.status_text.specs.declared.status.Status.TheVariants as status
use Rattle.pq_words.specs.Text.{Text}

-- ---- reading

-- the text of the job, with all files read that the course asks for
pub record IsJobText (course : Course Status) (r : Reading) (text : Text) : Type 0 where
  pub judged : IfSome (verdict course r.files) (λ outcome. outcome ≡ Job text)
  pub asked : HasAskedAll course r
  pub counted : CountsOnce r.each r.before r.after false

-- nothing is written
pub record IsIdle (w : Writing) : Type 0 where
  pub taken : HasTakenNothing w
  pub faults : w.after ≡ w.before

-- what reading gives: the text of the job, or the status of a call that writes nothing
abbrev pub IsRead : Course Status → Reading → Result Text Status → Type 0
IsRead course r (Ok text) = IsJobText course r text
IsRead course r (Err s) = (w : Writing) → IsIdle w → IsTopCall course (record { reads = r; writes = w }) s

-- ---- a part that gives a value

-- the rest of a call's reading, after a part of it, up to these names asked and this count
abbrev pub rest_until : Reading → Option (List Text) → ℕ → Reading
rest_until part asked count = record {
  files = part.files;
  asked_before = part.asked_after;
  asked_after = asked;
  before = part.after;
  after = count;
  each = part.each;
}

-- the part and this rest
abbrev pub whole_until : Reading → Option (List Text) → ℕ → Reading
whole_until part asked count = record part { asked_after = asked; after = count }

-- what such a part gives, of courses that go the same way and then on from its value: what the rest gives of
-- the course from the value on, the whole gives of the course; or the status of any such course
abbrev pub IsReadFor : {A : Type 0} → ((A → Course Status) → Course Status) → Reading → Result A Status
    → Type 0
IsReadFor {A} way part (Ok x) = (go : A → Course Status) (asked : Option (List Text)) (count : ℕ)
    (result : Result Text Status) → IsRead (go x) (rest_until part asked count) result
    → IsRead (way go) (whole_until part asked count) result
IsReadFor {A} way part (Err s) = (go : A → Course Status) → IsRead (way go) part (Err s)

-- ---- one file

-- the file of this name was read, which has these bytes
pub record HasBytes (file : InputFile) (name : Text) (r : Reading) (bytes : Text) : Type 0 where
  pub held : Holds r.files name bytes
  pub within : length bytes ≤ limit_of file
  pub asked : HasAsked r.asked_before (name ∷ []) r.asked_after
  pub counted : CountsOnce r.each r.before r.after false
  pub later : r.before ≤ r.after

-- what reading a file gives: its bytes, or the status of any course that asks for it
abbrev pub IsFileRead : InputFile → Text → Reading → Result Text Status → Type 0
IsFileRead file name r (Ok bytes) = HasBytes file name r bytes
IsFileRead file name r (Err s) = (go : Text → Course Status) → IsRead (asks_for file name go) r (Err s)

-- ---- writing

pub record IsWhole (w : Writing) (text : Text) : Type 0 where
  pub taken : HasTaken w text
  pub counted : CountsOnce w.each w.before w.after false

pub record IsCutOff (w : Writing) (text : Text) (faults : ℕ) : Type 0 where
  pub rose : Rose w.before w.after
  pub number : faults ≡ w.after
  pub taken : HasTakenFront w text
  pub counted : CountsOnce w.each w.before w.after true

-- what writing a text answers: it is done, or it failed at a front of it
abbrev pub IsWritten : Text → Writing → Status → Type 0
IsWritten text w status.Done = IsWhole w text
IsWritten text w (status.WriteFault faults) = IsCutOff w text faults
IsWritten text w _ = ⊥
