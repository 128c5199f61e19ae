-- The statuses of a call that can't have a file.
use Rattle.std.proofs.Common.{◌≡◌, ℕ, ◌+◌, ◌≤◌, ◌<◌, true, false, [], ◌∷◌, length, Option, Some, None, inl, Err, refl, sym, subst, arith}
use Rattle.std.proofs.Math.ListN.{replicate}
use Rattle.std.proofs.lemmas.List.{length-replicate}
use Rattle.std.proofs.lemmas.Bool.Decides.{nat_tests}
use Rattle.std.specs.Prelude.{IsSomeAnd, nat_le}
use Rattle.cfg_fields.specs.declared.fault.Quantity.{Quantity}
use Rattle.pq_base.specs.Causes.{CountsOnce, Rose}
use Rattle.pq_base.specs.Outside.{Files, HasAsked, IsMissing, IsOver, file_named}
use Rattle.pq_base.specs.ReadAll.{is_failed}
use Rattle.pq_base.specs.declared.shelf.ReadAll.{ReadAll}
use Rattle.pq_base.specs.declared.shelf.ReadAll.TheVariants as why
use Rattle.pq_course.proofs.CourseLemmas.{Follows, asked_none, asks_first, top_call_after}
use Rattle.pq_course.proofs.ReadingLemmas.{IsQuiet, of_any_outcome, refused}
use Rattle.pq_course.specs.InputFile.{asks_for, limit_of, number_of, quantity_of, refusal_of}
use Rattle.pq_course.specs.Parts.{IsRead}
use Rattle.status_text.specs.Refusals.{IsRefusing}
use Rattle.pq_course.specs.TopCall.{IsTopCall, Reading}
use Rattle.pq_course.specs.Verdict.{Course, Ends, Finds, Refused, verdict, with_file}
use Rattle.pq_course.specs.declared.input_file.InputFile.{InputFile}
use Rattle.status_text.specs.declared.status.Status.{Status}
use Rattle.status_text.specs.declared.status.Status.TheVariants as status
use Rattle.pq_words.specs.Text.{Text}

-- a call of the shelf failed
pub read_fault : (file : InputFile) (name : Text) (go : Text → Course Status) (r : Reading) (faults : ℕ)
    → HasAsked r.asked_before (name ∷ []) r.asked_after → CountsOnce r.each r.before r.after true
    → Rose r.before r.after → faults ≡ r.after →
    IsRead (asks_for file name go) r (Err (status.ReadFault faults))
read_fault file name go r faults names counted rose number = λ w idle. record {
  explained = record {
    rose = rose;
    number = number;
    earlier = [];
    last = name;
    asked = record { front = asks_first name _ r.files; asked = names };
    taken = idle.taken;
  };
  complete = λ no_read no_write. absurd (no_read rose);
  once = record { reads = counted; writes = λ h. idle.faults };
}

-- there was no memory for the bytes
pub no_memory : (file : InputFile) (name : Text) (go : Text → Course Status) (r : Reading)
    → HasAsked r.asked_before (name ∷ []) r.asked_after → CountsOnce r.each r.before r.after false →
    IsRead (asks_for file name go) r (Err status.OutOfMemory)
no_memory file name go r names counted = λ w idle. record {
  explained = record {
    taken = of_any_outcome w (verdict (asks_for file name go) r.files) idle.taken;
    names = name ∷ [];
    asked = record { front = asks_first name _ r.files; asked = names };
  };
  complete = λ no_read no_write. inl refl;
  once = record { reads = counted; writes = λ h. idle.faults };
}

-- the file is refused by what is found under its name
refused_file : (file : InputFile) (name : Text) (go : Text → Course Status) (r : Reading)
    (found : Option Text) (why : Status)
    → IsRefusing why
    → with_file (status.NoFile (number_of file)) (status.Limit (quantity_of file) 0) (limit_of file) go found
    ≡ Ends (Refused why)
    → Finds r.files name found → HasAsked r.asked_before (name ∷ []) r.asked_after → r.before ≤ r.after
    → CountsOnce r.each r.before r.after false → IsRead (asks_for file name go) r (Err why)
refused_file file name go r found why refuses ends finds names later counted = λ w idle.
    let rest : Reading = record r { asked_before = r.asked_after; before = r.after } in
    let follows : Follows r.asked_before r.before name found rest =
    record { finds = finds; names = names; later = later; counted = counted } in
    let quiet : IsQuiet rest = record { names = asked_none r.asked_after; faults = refl } in
    top_call_after r.asked_before r.before name _ found rest w why follows
    (subst (λ course. IsTopCall course (record { reads = rest; writes = w }) why) (sym ends)
    (refused why rest refuses quiet w idle))

finds_none : (files : Option Files) (name : Text) → IsMissing files name → Finds files name None
finds_none None name is = tt
finds_none (Some fs) name is = is

some_and : (o : Option Text) (P : Text → Type 0) → IsSomeAnd o P → (x : Text) × (o ≡ Some x) × P x
some_and None P is = absurd is
some_and (Some x) P is = (x, refl, is)

-- a file that is over its limit has some bytes, more than that; where the files aren't told, any will do
finds_over : (files : Option Files) (name : Text) (limit : ℕ) → IsOver files name limit →
    (bytes : Text) × Finds files name (Some bytes) × (limit < length bytes)
finds_over None name limit is =
    (replicate (limit + 1) 0, tt, simp length-replicate (omega arith))
finds_over (Some fs) name limit is = some_and (file_named fs name) (λ bytes. limit < length bytes) is

past_limit : (n limit : ℕ) → limit < n → nat_le n limit ≡ false
past_limit n limit past = grind (arith, nat_tests)

-- there is no file of this name
pub missing : (file : InputFile) (name : Text) (go : Text → Course Status) (r : Reading) (number : ℕ)
    → number ≡ number_of file → IsMissing r.files name
    → HasAsked r.asked_before (name ∷ []) r.asked_after → r.before ≤ r.after
    → CountsOnce r.each r.before r.after false →
    IsRead (asks_for file name go) r (Err (status.NoFile number))
missing file name go r number is_number is names later counted =
    subst (λ n. IsRead (asks_for file name go) r (Err (status.NoFile n))) (sym is_number)
    (refused_file file name go r None (status.NoFile (number_of file)) tt refl
    (finds_none r.files name is) names later counted)

-- it has more bytes than its limit
pub over : (file : InputFile) (name : Text) (go : Text → Course Status) (r : Reading) (what : Quantity)
    (limit : ℕ)
    → what ≡ quantity_of file → limit ≡ limit_of file → IsOver r.files name limit
    → HasAsked r.asked_before (name ∷ []) r.asked_after → r.before ≤ r.after
    → CountsOnce r.each r.before r.after false →
    IsRead (asks_for file name go) r (Err (status.Limit what 0))
over file name go r what limit is_what is_limit is names later counted =
    let found = finds_over r.files name (limit_of file) (subst (IsOver r.files name) is_limit is) in
    subst (λ q. IsRead (asks_for file name go) r (Err (status.Limit q 0))) (sym is_what)
    (refused_file file name go r (Some found.0) (status.Limit (quantity_of file) 0) tt
    (rw (past_limit (length found.0) (limit_of file) found.2) refl) found.1 names later counted)

-- ---- any of these

-- what is known where a file can't be had, for this reason
pub record CannotHave (file : InputFile) (name : Text) (r : Reading) (reason : ReadAll) : Type 0 where
  pub names : HasAsked r.asked_before (name ∷ []) r.asked_after
  pub later : r.before ≤ r.after
  pub failed : reason ≡ why.Failed → Rose r.before r.after
  pub missing : reason ≡ why.Missing → IsMissing r.files name
  pub over : reason ≡ why.Over → IsOver r.files name (limit_of file)

pub cannot_have : (file : InputFile) (name : Text) (go : Text → Course Status) (r : Reading)
    (reason : ReadAll)
    → CannotHave file name r reason
    → CountsOnce r.each r.before r.after (is_failed {X = Unit {0}} (Err reason))
    → IsRead (asks_for file name go) r (Err (refusal_of file reason r.after))
cannot_have file name go r why.Failed h counted =
    read_fault file name go r r.after h.names counted (h.failed refl) refl
cannot_have file name go r why.Missing h counted =
    missing file name go r (number_of file) refl (h.missing refl) h.names h.later counted
cannot_have file name go r why.Over h counted =
    over file name go r (quantity_of file) (limit_of file) refl refl (h.over refl) h.names h.later counted
cannot_have file name go r why.OutOfMemory h counted = no_memory file name go r h.names counted
