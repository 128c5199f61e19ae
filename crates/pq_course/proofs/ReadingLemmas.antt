-- Parts of a call that read: what is refused or given where nothing more is read, and after a file.
use Rattle.std.proofs.Common.{◌≡◌, ℕ, ◌≤◌, true, false, List, [], length, Option, Some, None, ◌⊎◌, inl, inr, Result, Ok, Err, refl, sym, subst, ap, ◌∙◌, arith}
use Rattle.std.proofs.KnownBytes.{Appends-nil}
use Rattle.std.proofs.lemmas.Bool.Decides.{nat_tests}
use Rattle.std.specs.Io.KnownBytes.{Appends}
use Rattle.std.specs.Prelude.{IfSome, IsErrAnd, nat_le}
use Rattle.cfg_fields.specs.declared.fault.CfgFault.{CfgFault}
use Rattle.cfg_fields.specs.declared.fault.CfgFault.TheVariants as cfg_fault
use Rattle.comtrade_dat.specs.declared.dat_fault.DatFault.{DatFault}
use Rattle.comtrade_dat.specs.declared.dat_fault.DatFault.TheVariants as dat_fault
use Rattle.pq_base.specs.Outside.{Files, HasAsked, Holds}
use Rattle.pq_base.specs.declared.shelf.Shelf as shelf
use Rattle.pq_course.proofs.CourseLemmas.{Follows, asked_names, asked_none, all_after, begun_at, counted_then, of_rest, top_call_after}
use Rattle.pq_course.specs.InputFile.{asks_for, limit_of, number_of, quantity_of}
use Rattle.pq_course.specs.Parts.{HasBytes, IsRead, rest_until, whole_until}
use Rattle.status_text.specs.Refusals.{IsRefusing, cfg_refusal, dat_refusal, or_refused}
use Rattle.pq_course.specs.Judged.{goes_on}
use Rattle.pq_course.specs.TopCall.{HasTakenFront, HasTakenNothing, OfOutcome, Reading, Writing, reading_of}
use Rattle.pq_course.specs.Verdict.{Asks, Course, Ends, Finds, Job, Outcome, Refused, verdict, with_file}
use Rattle.pq_course.specs.declared.input_file.InputFile.{InputFile}
use Rattle.status_text.specs.declared.status.Status.{Status}
use Rattle.status_text.specs.declared.status.Status.TheVariants as status
use Rattle.pq_words.specs.Text.{Text}

-- ---- nothing more is read

-- nothing is asked, and no call fails
pub record IsQuiet (r : Reading) : Type 0 where
  pub names : HasAsked r.asked_before [] r.asked_after
  pub faults : r.after ≡ r.before

pub quiet : {K : Type 0} (told : shelf.Ghosts K) (s : K) → IsQuiet (reading_of told s s)
quiet told s = record { names = asked_none (told.asked s); faults = refl }

-- a refusal that is the verdict, or want of memory
pub refused : (why : Status) (r : Reading) → IsRefusing why → IsQuiet r →
    IsRead (Ends (Refused why)) r (Err why)
refused status.Done r refuses q = absurd refuses
refused (status.ReadFault n) r refuses q = absurd refuses
refused (status.WriteFault n) r refuses q = absurd refuses
refused status.OutOfMemory r refuses q = λ w idle. record {
  explained = record {
    taken = idle.taken;
    names = [];
    asked = record { front = ([], refl); asked = q.names };
  };
  complete = λ no_read no_write. inl refl;
  once = record { reads = λ h. q.faults; writes = λ h. idle.faults };
}
refused why r refuses q = λ w idle. record {
  explained = record {
    judged = refl;
    taken = idle.taken;
    asked = record { names = []; all = refl; asked = q.names };
  };
  complete = λ no_read no_write. inr refl;
  once = record { reads = λ h. q.faults; writes = λ h. idle.faults };
}

front_of_none : (w : Writing) (text : Text) → HasTakenNothing w → HasTakenFront w text
front_of_none w text same = (
  [],
  text,
  refl,
  subst (λ t. Appends w.taken_before t []) (sym same)
      (Appends-nil w.taken_before),
)

-- where nothing was taken, want of memory is explained whatever the verdict
pub of_any_outcome : (w : Writing) (o : Option (Outcome Status)) → HasTakenNothing w →
    IfSome o (λ outcome. OfOutcome outcome (HasTakenFront w) (λ why. HasTakenNothing w))
of_any_outcome w None same = tt
of_any_outcome w (Some (Job text)) same = front_of_none w text same
of_any_outcome w (Some (Refused why)) same = same

-- want of memory, on any course
pub out_of_memory : (course : Course Status) (r : Reading) → IsQuiet r →
    IsRead course r (Err status.OutOfMemory)
out_of_memory course r q = λ w idle. record {
  explained = record {
    taken = of_any_outcome w (verdict course r.files) idle.taken;
    names = [];
    asked = record { front = asked_names course r.files; asked = q.names };
  };
  complete = λ no_read no_write. inl refl;
  once = record { reads = λ h. q.faults; writes = λ h. idle.faults };
}

-- the text of a job
pub job : (text : Text) (r : Reading) → IsQuiet r → IsRead (Ends (Job text)) r (Ok text)
job text r q = record {
  judged = refl;
  asked = record { names = []; all = refl; asked = q.names };
  counted = λ h. q.faults;
}

-- ---- what is judged

-- a result that is this error
pub is_err : (course : Course Status) (r : Reading) (result : Result Text Status) (s : Status)
    → IsErrAnd result (λ e. e ≡ s) → IsRead course r (Err s) → IsRead course r result
is_err course r (Ok text) s is e = absurd is
is_err course r (Err found) s is e = subst (λ x. IsRead course r (Err x)) (sym is) e

pub cfg_refuses : (why : CfgFault) → IsRefusing (cfg_refusal why)
cfg_refuses (cfg_fault.Line number) = tt
cfg_refuses (cfg_fault.Field line field) = tt
cfg_refuses (cfg_fault.Unsupported what line) = tt
cfg_refuses (cfg_fault.Limit what line) = tt
cfg_refuses cfg_fault.OutOfMemory = tt

pub dat_refuses : (why : DatFault) → IsRefusing (dat_refusal why)
dat_refuses (dat_fault.Short at) = tt
dat_refuses (dat_fault.Number at found) = tt
dat_refuses (dat_fault.Missing at channel) = tt
dat_refuses (dat_fault.Long bytes) = tt
dat_refuses dat_fault.OutOfMemory = tt

-- what was judged good goes on
pub goes_on_good : {V : Type 0} (read : Result V Status) (x : V) (go : V → Course Status) (r : Reading)
    (result : Result Text Status)
    → read ≡ Ok x → IsRead (go x) r result → IsRead (goes_on read go) r result
goes_on_good read x go r result good rest = subst (λ j. IsRead (goes_on j go) r result) (sym good) rest

-- what was judged as a refusal, or found no memory, ends
pub ends_refused : {V : Type 0} (read : Result V Status) (why : Status) (go : V → Course Status) (r : Reading)
    → (why ≡ status.OutOfMemory) ⊎ (read ≡ Err why) → IsRefusing why → IsQuiet r →
    IsRead (goes_on read go) r (Err why)
ends_refused read why go r (inl memory) refuses q =
    subst (λ s. IsRead (goes_on read go) r (Err s)) (sym memory) (out_of_memory (goes_on read go) r q)
ends_refused read why go r (inr found) refuses q =
    subst (λ j. IsRead (goes_on j go) r (Err why)) (sym found) (refused why r refuses q)

-- a fault that was found is refused so
pub found_refused : {E V : Type 0} (refusal : E → Status) (free why : E) (s : Status) (read : Result V E)
    → (why ≡ free) ⊎ (read ≡ Err why) → refusal free ≡ status.OutOfMemory → s ≡ refusal why
    → (s ≡ status.OutOfMemory) ⊎ (or_refused refusal read ≡ Err s)
found_refused refusal free why s read (inl memory) wants is = inl (is ∙ ap refusal memory ∙ wants)
found_refused refusal free why s read (inr found) wants is =
    inr (ap (or_refused refusal) found ∙ ap (λ x. Err x) (sym is))

pub found_good : {E V : Type 0} (refusal : E → Status) (read : Result V E) (x : V) → read ≡ Ok x →
    or_refused refusal read ≡ Ok x
found_good refusal read x good = ap (or_refused refusal) good

-- ---- after a file

read_after : (asked : Option (List Text)) (before : ℕ) (name : Text) (go : Option Text → Course Status)
    (found : Option Text) (r : Reading) (result : Result Text Status)
    → Follows asked before name found r → IsRead (go found) r result →
    IsRead (Asks name go) (begun_at asked before r) result
read_after asked before name go found r (Ok text) f rest = record {
  judged = of_rest r.files name go found _ f.finds rest.judged;
  asked = all_after asked before name go found r f rest.asked;
  counted = counted_then r.each before r.before r.after false f.counted rest.counted;
}
read_after asked before name go found r (Err s) f rest =
    λ w idle. top_call_after asked before name go found r w s f (rest w idle)

finds_held : (files : Option Files) (name bytes : Text) → Holds files name bytes →
    Finds files name (Some bytes)
finds_held None name bytes h = tt
finds_held (Some fs) name bytes h = h

within_limit : (n limit : ℕ) → n ≤ limit → nat_le n limit ≡ true
within_limit n limit fits = grind (arith, nat_tests)

-- after a file that was read the course goes on with its bytes
pub read_until : (file : InputFile) (name : Text) (go : Text → Course Status) (bytes : Text) (part : Reading)
    (asked : Option (List Text)) (count : ℕ) (result : Result Text Status)
    → HasBytes file name part bytes → IsRead (go bytes) (rest_until part asked count) result →
    IsRead (asks_for file name go) (whole_until part asked count) result
read_until file name go bytes part asked count result h rest =
    let later : Reading = rest_until part asked count in
    let follows : Follows part.asked_before part.before name (Some bytes) later = record {
      finds = finds_held part.files name bytes h.held;
      names = h.asked;
      later = h.later;
      counted = h.counted;
    } in
    read_after part.asked_before part.before name
    (with_file (status.NoFile (number_of file)) (status.Limit (quantity_of file) 0) (limit_of file) go)
    (Some bytes) later result follows (rw (within_limit (length bytes) (limit_of file) h.within) rest)

-- reading from b to c, with the files as they were at a
abbrev pub reading_since : {K : Type 0} → shelf.Ghosts K → K → K → K → Reading
reading_since told a b c = record (reading_of told b c) { files = told.files a }

-- a file that was read later is one of the files that there were
pub held_since : {K : Type 0} (told : shelf.Ghosts K) (a b c : K) (file : InputFile) (name bytes : Text)
    → HasBytes file name (reading_of told b c) bytes → told.files b ≡ told.files a
    → HasBytes file name (reading_since told a b c) bytes
held_since told a b c file name bytes h same = record {
  held = subst (λ fs. Holds fs name bytes) same h.held;
  within = h.within;
  asked = h.asked;
  counted = h.counted;
  later = h.later;
}

-- the same, where the rest was read from the files that it left
pub after_file : {K : Type 0} (told : shelf.Ghosts K) (a b c : K) (file : InputFile) (name : Text)
    (go : Text → Course Status) (bytes : Text) (result : Result Text Status)
    → HasBytes file name (reading_of told a b) bytes → told.files b ≡ told.files a
    → IsRead (go bytes) (reading_of told b c) result →
    IsRead (asks_for file name go) (reading_of told a c) result
after_file told a b c file name go bytes result h same rest =
    read_until file name go bytes (reading_of told a b) (told.asked c) (told.faults c) result h
    (subst (λ fs. IsRead (go bytes) (record (reading_of told b c) { files = fs }) result) same rest)
