-- A text that was read as the job's, and then written; a text that is written in pieces.
use Rattle.std.proofs.Common.{◌≡◌, ℕ, ◌+◌, ◌<◌, ◌≤◌, true, List, ◌∷◌, ◌++◌, length, get_or, take, drop, Option, Some, None, inr, refl, sym, subst, ap, ◌∙◌, append_assoc, add-one, drop-cons}
use Rattle.std.proofs.KnownBytes.{Appends-trans}
use Rattle.std.proofs.lemmas.Grind.{flat_map-append}
use Rattle.std.proofs.lemmas.List.{take-append-drop}
use Rattle.std.specs.List.{flat_map}
use Rattle.std.specs.Prelude.{IfSome}
use Rattle.pq_base.specs.Causes.{CountsOnce, Rose}
use Rattle.pq_base.specs.Outside.{AppendsFront}
use Rattle.pq_base.specs.declared.sink.Sink as sink
use Rattle.pq_base.proofs.CauseLemmas.{rose_since}
use Rattle.pq_course.proofs.CourseLemmas.{counted_then}
use Rattle.pq_course.specs.Parts.{IsCutOff, IsJobText, IsWhole, IsWritten}
use Rattle.pq_course.specs.TopCall.{IsTopCall, OfOutcome, Reading, Writing, writing_of}
use Rattle.pq_course.specs.Verdict.{Course, Job, Outcome, verdict}
use Rattle.status_text.specs.declared.status.Status.{Status}
use Rattle.status_text.specs.declared.status.Status.TheVariants as status
use Rattle.pq_words.specs.Text.{Text}

of_job : (o : Option (Outcome Status)) (text : Text) (P : Text → Type 0) (Q : Status → Type 0)
    → IfSome o (λ outcome. outcome ≡ Job text) → P text → IfSome o (λ outcome. OfOutcome outcome P Q)
of_job None text P Q is p = tt
of_job (Some outcome) text P Q is p = subst (λ x. OfOutcome x P Q) (sym is) p

-- the job's text was handed over, or a front of it
pub written : (course : Course Status) (r : Reading) (w : Writing) (text : Text) (s : Status)
    → IsJobText course r text → IsWritten text w s → IsTopCall course (record { reads = r; writes = w }) s
written course r w text status.Done j h = record {
  explained = record { taken = of_job (verdict course r.files) text _ _ j.judged h.taken; asked = j.asked };
  complete = λ no_read no_write. inr (of_job (verdict course r.files) text _ _ j.judged refl);
  once = record { reads = j.counted; writes = h.counted };
}
written course r w text (status.WriteFault n) j h = record {
  explained = record {
    rose = h.rose;
    number = h.number;
    taken = of_job (verdict course r.files) text _ _ j.judged h.taken;
    asked = j.asked;
  };
  complete = λ no_read no_write. absurd (no_write h.rose);
  once = record { reads = j.counted; writes = h.counted };
}
written course r w text s j h = absurd h

-- ---- pieces

-- a text was taken so far
pub record IsSoFar {O : Type 0} (told : sink.Ghosts O) (a b : O) (text : Text) : Type 0 where
  pub whole : IsWhole (writing_of told a b) text
  pub later : told.faults a ≤ told.faults b

-- a list, cut before and after an element
pub cut_at : {X : Type 0} (f : X → Text) (xs : List X) (i : ℕ) (d : X) → i < length xs →
    flat_map f xs ≡ flat_map f (take i xs) ++ (f (get_or xs i d) ++ flat_map f (drop (i + 1) xs))
cut_at f xs i d inside =
    let parts : xs ≡ take i xs ++ (get_or xs i d ∷ drop (i + 1) xs) =
    rw (add-one i) (sym (ap (λ l. take i xs ++ l) (sym (drop-cons xs i d inside)) ∙ take-append-drop i xs)) in
    ap (flat_map f) parts ∙ flat_map-append f (take i xs) (get_or xs i d ∷ drop (i + 1) xs)

-- after a text so far, a piece was cut off
pub cut_off_after : {O : Type 0} (told : sink.Ghosts O) (a b c : O) (done piece rest text : Text)
    → IsSoFar told a b done → AppendsFront (told.taken b) (told.taken c) piece
    → Rose (told.faults b) (told.faults c)
    → CountsOnce told.counts_each (told.faults b) (told.faults c) true
    → text ≡ done ++ (piece ++ rest) → IsCutOff (writing_of told a c) text (told.faults c)
cut_off_after told a b c done piece rest text so_far front rose counted is = record {
  rose = rose_since (told.faults a) (told.faults b) (told.faults c) so_far.later rose;
  number = refl;
  taken = (
    done ++ take front.count piece,
    drop front.count piece ++ rest,
    is ∙ (ap (λ l. done ++ (l ++ rest)) (sym (take-append-drop front.count piece))
        ∙ (ap (λ l. done ++ l) (append_assoc (take front.count piece) (drop front.count piece) rest)
        ∙ sym (append_assoc done (take front.count piece) (drop front.count piece ++ rest)))),
    Appends-trans (told.taken a) (told.taken b) (told.taken c) done (take front.count piece)
        so_far.whole.taken front.bytes,
  );
  counted = counted_then told.counts_each (told.faults a) (told.faults b) (told.faults c) true
      so_far.whole.counted counted;
}
