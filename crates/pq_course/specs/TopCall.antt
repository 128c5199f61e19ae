-- The subject: what every top call promises, by its course and by what its shelf and its sink tell (profile).
use Rattle.std.specs.Prelude.{◌≡◌, ℕ, Bool, true, false, ◌⊎◌, List, [], ◌∷◌, ◌++◌, Option, IfSome}
use Rattle.std.specs.Io.KnownBytes.{Appends}
use Rattle.pq_base.specs.Causes.{CountsOnce, Rose}
use Rattle.pq_base.specs.Outside.{Files, HasAsked}
use Rattle.pq_base.specs.declared.shelf.Shelf as shelf
use Rattle.pq_base.specs.declared.sink.Sink as sink
use Rattle.pq_course.specs.Verdict.{Outcome, Refused, Job, Course, verdict, AsksAll, AsksFront}
use Rattle.status_text.specs.declared.status.Status.{Status}
use Rattle.status_text.specs.declared.status.Status.TheVariants as status
use Rattle.pq_words.specs.Text.{Text}

-- what a shelf tells of one call: its files, the names asked before and after, its counts of faults, and
-- whether each fault that it counts is one call that failed
pub record Reading : Type 0 where
  pub files : Option Files
  pub asked_before : Option (List Text)
  pub asked_after : Option (List Text)
  pub before : ℕ
  pub after : ℕ
  pub each : Bool

abbrev pub reading_of : {K : Type 0} → shelf.Ghosts K → K → K → Reading
reading_of told old new = record {
  files = told.files old;
  asked_before = told.asked old;
  asked_after = told.asked new;
  before = told.faults old;
  after = told.faults new;
  each = told.counts_each;
}

-- what a sink tells of one call: the bytes taken before and after, its counts of faults, and the same
pub record Writing : Type 0 where
  pub taken_before : Option Text
  pub taken_after : Option Text
  pub before : ℕ
  pub after : ℕ
  pub each : Bool

abbrev pub writing_of : {O : Type 0} → sink.Ghosts O → O → O → Writing
writing_of told old new = record {
  taken_before = told.taken old;
  taken_after = told.taken new;
  before = told.faults old;
  after = told.faults new;
  each = told.counts_each;
}

-- what a clause sees of one call
pub record Call : Type 0 where
  pub reads : Reading
  pub writes : Writing

abbrev pub call_of : {K O : Type 0} → shelf.Ghosts K → sink.Ghosts O → K → K → O → O → Call
call_of files bytes old_shelf new_shelf old_sink new_sink = record {
  reads = reading_of files old_shelf new_shelf;
  writes = writing_of bytes old_sink new_sink;
}

-- ---- names

-- the names asked in the call are all that the course asks for, one after another
pub record HasAskedAll (course : Course Status) (r : Reading) : Type 0 where
  pub names : List Text
  pub all : AsksAll course r.files names
  pub asked : HasAsked r.asked_before names r.asked_after

-- the names asked in the call are these, which the course asks for first
pub record HasAskedFront (course : Course Status) (r : Reading) (names : List Text) : Type 0 where
  pub front : AsksFront course r.files names
  pub asked : HasAsked r.asked_before names r.asked_after

-- ---- bytes

-- the sink took this text in the call
abbrev pub HasTaken : Writing → Text → Type 0
HasTaken w text = Appends w.taken_before w.taken_after text

-- the sink took nothing in the call
abbrev pub HasTakenNothing : Writing → Type 0
HasTakenNothing w = w.taken_after ≡ w.taken_before

-- a front of this text
abbrev pub HasTakenFront : Writing → Text → Type 0
HasTakenFront w text = (front back : Text) × (text ≡ front ++ back) × HasTaken w front

-- ---- the verdict

-- P of the text where the outcome is a job, else Q
abbrev pub OfOutcome : Outcome Status → (Text → Type 0) → (Status → Type 0) → Type 0
OfOutcome (Job text) P Q = P text
OfOutcome (Refused why) P Q = Q why

-- the same of the verdict, where the files are told or none is needed
abbrev pub OfVerdict : Course Status → Reading → (Text → Type 0) → (Status → Type 0) → Type 0
OfVerdict course r P Q = IfSome (verdict course r.files) (λ outcome. OfOutcome outcome P Q)

-- ---- the promises

-- done: the verdict is a job, and the bytes taken are its text
pub record IsDone (course : Course Status) (call : Call) : Type 0 where
  pub taken : OfVerdict course call.reads (HasTaken call.writes) (λ why. ⊥)
  pub asked : HasAskedAll course call.reads

-- refusal: it is the verdict, and nothing was taken
pub record IsRefusal (course : Course Status) (call : Call) (why : Status) : Type 0 where
  pub judged : OfVerdict course call.reads (λ text. ⊥) (λ found. found ≡ why)
  pub taken : HasTakenNothing call.writes
  pub asked : HasAskedAll course call.reads

-- read fault: the shelf's count rose to this number, at the last of the names asked, which no refusal
-- precedes, and nothing was taken
pub record IsReadFault (course : Course Status) (call : Call) (faults : ℕ) : Type 0 where
  pub rose : Rose call.reads.before call.reads.after
  pub number : faults ≡ call.reads.after
  pub earlier : List Text
  pub last : Text
  pub asked : HasAskedFront course call.reads (earlier ++ last ∷ [])
  pub taken : HasTakenNothing call.writes

-- write fault: the verdict is a job, the sink's count rose to this number, and a front of the text was taken
pub record IsWriteFault (course : Course Status) (call : Call) (faults : ℕ) : Type 0 where
  pub rose : Rose call.writes.before call.writes.after
  pub number : faults ≡ call.writes.after
  pub taken : OfVerdict course call.reads (HasTakenFront call.writes) (λ why. ⊥)
  pub asked : HasAskedAll course call.reads

-- out of memory: a front of the text was taken where the verdict is a job, else nothing
pub record IsOutOfMemory (course : Course Status) (call : Call) : Type 0 where
  pub taken : OfVerdict course call.reads (HasTakenFront call.writes) (λ why. HasTakenNothing call.writes)
  pub names : List Text
  pub asked : HasAskedFront course call.reads names

-- each status comes only so
abbrev pub IsExplained : Course Status → Call → Status → Type 0
IsExplained course call status.Done = IsDone course call
IsExplained course call (status.ReadFault faults) = IsReadFault course call faults
IsExplained course call (status.WriteFault faults) = IsWriteFault course call faults
IsExplained course call status.OutOfMemory = IsOutOfMemory course call
IsExplained course call why = IsRefusal course call why

-- complete: where neither count rose, the status is the verdict's, or want of memory
abbrev pub IsComplete : Course Status → Call → Status → Type 0
IsComplete course call s =
    (Rose call.reads.before call.reads.after → ⊥) → (Rose call.writes.before call.writes.after → ⊥)
    → (s ≡ status.OutOfMemory) ⊎ OfVerdict course call.reads (λ text. s ≡ status.Done) (λ why. s ≡ why)

abbrev pub is_read_fault : Status → Bool
is_read_fault (status.ReadFault faults) = true
is_read_fault _ = false

abbrev pub is_write_fault : Status → Bool
is_write_fault (status.WriteFault faults) = true
is_write_fault _ = false

-- once: where each fault that is counted is one call that failed, a read fault is the one call of the shelf
-- that failed, a write fault the one of the sink, and with any other status none failed
pub record IsOnce (call : Call) (s : Status) : Type 0 where
  pub reads : CountsOnce call.reads.each call.reads.before call.reads.after (is_read_fault s)
  pub writes : CountsOnce call.writes.each call.writes.before call.writes.after (is_write_fault s)

-- the clauses of a top call
pub record IsTopCall (course : Course Status) (call : Call) (s : Status) : Type 0 where
  pub explained : IsExplained course call s
  pub complete : IsComplete course call s
  pub once : IsOnce call s
