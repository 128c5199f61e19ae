-- A text that was read as the job's, and then printed.
use Rattle.std.proofs.Common.{◌≡◌, ◌⊎◌, [], Option, Some, None, inl, inr, Result, Ok, Err, refl, sym, subst, append-nil}
use Rattle.std.proofs.KnownBytes.{Appends-nil}
use Rattle.std.specs.Io.KnownBytes.{Appends}
use Rattle.std.specs.Prelude.{IfSome, IsErrAnd}
use Rattle.event_detect.specs.declared.limits.Limits.{Limits}
use Rattle.lane_reports.specs.PrintedReport.{IsPrinted}
use Rattle.pq_base.specs.Recorded.{Recorded}
use Rattle.pq_course.proofs.PartLemmas.{written}
use Rattle.pq_course.proofs.ReadingLemmas.{of_any_outcome}
use Rattle.pq_course.specs.Parts.{IsIdle, IsJobText, IsRead, IsWritten}
use Rattle.pq_course.specs.TopCall.{HasAskedFront, HasTakenFront, HasTakenNothing, IsTopCall, OfOutcome, Reading, Writing}
use Rattle.pq_course.specs.Verdict.{AsksAll, Course, Job, Outcome, verdict}
use Rattle.pq_run.specs.Measuring.{report_read}
use Rattle.pq_run.specs.RecordingFiles.{Gives}
use Rattle.pq_words.specs.Text.{Text}
use Rattle.status_text.specs.declared.status.Status.{Status}
use Rattle.status_text.specs.declared.status.Status.TheVariants as status

-- all names that a course asks for are a front of them
asked_front : (course : Course Status) (r : Reading) (text : Text) (j : IsJobText course r text) →
    HasAskedFront course r j.asked.names
asked_front course r text j = record {
  front = ([], subst (AsksAll course r.files) (sym (append-nil j.asked.names)) j.asked.all);
  asked = j.asked.asked;
}

of_job : (o : Option (Outcome Status)) (text : Text) (P : Text → Type 0) (Q : Status → Type 0) →
    IfSome o (λ outcome. outcome ≡ Job text) → P text → IfSome o (λ outcome. OfOutcome outcome P Q)
of_job None text P Q is p = tt
of_job (Some outcome) text P Q is p = subst (λ x. OfOutcome x P Q) (sym is) p

-- the job's text was printed, or a front of it
pub printed : (course : Course Status) (r : Reading) (w : Writing) (text : Text) (s : Status) →
    IsJobText course r text → IsPrinted text w s → IsTopCall course (record { reads = r; writes = w }) s
printed course r w text status.Done j p = written course r w text status.Done j p
printed course r w text (status.WriteFault n) j p = written course r w text (status.WriteFault n) j p
printed course r w text status.OutOfMemory j p = record {
  explained = record {
    taken = of_job (verdict course r.files) text _ _ j.judged p.taken;
    names = j.asked.names;
    asked = asked_front course r text j;
  };
  complete = λ no_read no_write. inl refl;
  once = record { reads = j.counted; writes = p.counted };
}
printed course r w text s j p = absurd p

-- the job's text was read, but memory ran out
pub unwritten : (course : Course Status) (r : Reading) (text : Text) → IsJobText course r text →
    IsRead course r (Err status.OutOfMemory)
unwritten course r text j = λ w idle. record {
  explained = record {
    taken = of_any_outcome w (verdict course r.files) idle.taken;
    names = j.asked.names;
    asked = asked_front course r text j;
  };
  complete = λ no_read no_write. inl refl;
  once = record { reads = j.counted; writes = λ h. idle.faults };
}

-- a text that is made after the reading is the job's, unless there was no memory
pub made : (course : Course Status) (r : Reading) (text : Text) (result : Result Text Status) →
    IsJobText course r text → Gives result (Ok text) → IsRead course r result
made course r text (Ok found) j gives =
    let same : Ok text ≡ Ok found = gives in
    let is : text ≡ found = cc in
    subst (IsJobText course r) is j
made course r text (Err why) j (inl memory) =
    subst (λ s. IsRead course r (Err s)) (sym memory) (unwritten course r text j)
made course r text (Err why) j (inr found) = absurd cc

-- a measurement that is this error
pub is_err_read : (course : Course Status) (r : Reading) (result : Result (Limits × Recorded) Status)
    (s : Status) → IsErrAnd result (λ e. e ≡ s) → IsRead course r (Err s) →
    IsRead course r (report_read result)
is_err_read course r (Ok m) s is e = absurd is
is_err_read course r (Err found) s is e = subst (λ x. IsRead course r (Err x)) (sym is) e

front_of_none : (w : Writing) (text : Text) → HasTakenNothing w → HasTakenFront w text
front_of_none w text same =
    ([], text, refl, subst (λ t. Appends w.taken_before t []) (sym same) (Appends-nil w.taken_before))

-- where a text wasn't made, nothing is printed
pub unmade : (text : Text) (w : Writing) (why : Status) →
    (why ≡ status.OutOfMemory) ⊎ (Ok text ≡ Err why) → IsIdle w → IsPrinted text w why
unmade text w why (inl memory) idle = subst (IsPrinted text w) (sym memory)
    (record { taken = front_of_none w text idle.taken; counted = λ h. idle.faults })
unmade text w why (inr found) idle = absurd cc

-- a text that was handed over was printed
pub handed_over : (text : Text) (w : Writing) (s : Status) → IsWritten text w s → IsPrinted text w s
handed_over text w status.Done h = h
handed_over text w (status.WriteFault n) h = h
handed_over text w s h = absurd h
