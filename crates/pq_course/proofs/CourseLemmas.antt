-- What holds of the rest of a course holds of the course: one lemma for each promise of a top call.
use Rattle.std.proofs.Common.{◌≡◌, ℕ, ◌≤◌, false, Bool, List, [], ◌∷◌, ◌++◌, Option, Some, None, ◌⊎◌, inl, inr, refl, sym, subst, ap, ◌∙◌, append-nil, append_assoc}
use Rattle.std.specs.Prelude.{IfSome, if◌then◌else◌}
use Rattle.pq_base.proofs.CauseLemmas.{rose_since}
use Rattle.pq_base.specs.Causes.{CountsOnce, next_count}
use Rattle.pq_base.specs.Outside.{Files, HasAsked, file_named}
use Rattle.pq_course.specs.TopCall.{Call, HasAskedAll, HasAskedFront, IsExplained, IsTopCall, Reading, Writing}
use Rattle.pq_course.specs.Verdict.{Asks, AsksAll, AsksFront, Course, Ends, Finds, Outcome, verdict}
use Rattle.status_text.specs.declared.status.Status.{Status}
use Rattle.status_text.specs.declared.status.Status.TheVariants as status
use Rattle.pq_words.specs.Text.{Text}

-- ---- names

-- there are names that a course asks for
pub asked_names : (course : Course Status) (files : Option Files) →
    (names : List Text) × AsksAll course files names
asked_names (Ends outcome) files = ([], refl)
asked_names (Asks name go) None =
    let rest = asked_names (go None) None in
    (name ∷ rest.0, (None, rest.0, tt, refl, rest.1))
asked_names (Asks name go) (Some fs) =
    let rest = asked_names (go (file_named fs name)) (Some fs) in
    (name ∷ rest.0, (file_named fs name, rest.0, refl, refl, rest.1))

-- a course that asks asks for this name first
pub asks_first : (name : Text) (go : Option Text → Course Status) (files : Option Files) →
    AsksFront (Asks name go) files (name ∷ [])
asks_first name go None =
    let rest = asked_names (go None) None in
    (rest.0, (None, rest.0, tt, refl, rest.1))
asks_first name go (Some fs) =
    let rest = asked_names (go (file_named fs name)) (Some fs) in
    (rest.0, (file_named fs name, rest.0, refl, refl, rest.1))

-- no name was asked
pub asked_none : (told : Option (List Text)) → HasAsked told [] told
asked_none None = tt
asked_none (Some names) = (names, refl, sym (append-nil names))

-- some names were asked, and then others
pub asked_then : (a b c : Option (List Text)) (xs ys : List Text) → HasAsked a xs b → HasAsked b ys c →
    HasAsked a (xs ++ ys) c
asked_then a b None xs ys p q = tt
asked_then a None (Some z) xs ys p (e, told, grown) = absurd cc
asked_then a (Some y) (Some z) xs ys (d, before, longer) (e, told, grown) =
    let same : y ≡ e = cc in
    (d, before, grown ∙ ap (λ l. l ++ ys) (sym same ∙ longer) ∙ append_assoc d xs ys)

-- ---- counts

pub counted_then : (each : Bool) (a b c : ℕ) (failed : Bool) → CountsOnce each a b false →
    CountsOnce each b c failed → CountsOnce each a c failed
counted_then each a b c failed p q =
    λ h. subst (λ n. c ≡ (if failed then next_count n else n)) (p h) (q h)

-- ---- the rest of a course

-- the same reading, begun earlier
abbrev pub begun_at : Option (List Text) → ℕ → Reading → Reading
begun_at asked before r = record r { asked_before = asked; before = before }

-- between the earlier beginning and this reading a file of this name was asked for, and no call failed
pub record Follows (asked : Option (List Text)) (before : ℕ) (name : Text) (found : Option Text)
    (r : Reading) : Type 0 where
  pub finds : Finds r.files name found
  pub names : HasAsked asked (name ∷ []) r.asked_before
  pub later : before ≤ r.before
  pub counted : CountsOnce r.each before r.before false

-- the verdict of a course that asks is that of its rest
pub of_rest : (files : Option Files) (name : Text) (go : Option Text → Course Status) (found : Option Text)
    (R : Outcome Status → Type 0)
    → Finds files name found → IfSome (verdict (go found) files) R → IfSome (verdict (Asks name go) files) R
of_rest None name go found R here rest = tt
of_rest (Some fs) name go found R here rest = subst (λ f. IfSome (verdict (go f) (Some fs)) R) (sym here) rest

pub all_after : (asked : Option (List Text)) (before : ℕ) (name : Text) (go : Option Text → Course Status)
    (found : Option Text) (r : Reading)
    → Follows asked before name found r → HasAskedAll (go found) r →
    HasAskedAll (Asks name go) (begun_at asked before r)
all_after asked before name go found r f h = record {
  names = name ∷ h.names;
  all = (found, h.names, f.finds, refl, h.all);
  asked = asked_then asked r.asked_before r.asked_after (name ∷ []) h.names f.names h.asked;
}

pub front_after : (asked : Option (List Text)) (before : ℕ) (name : Text) (go : Option Text → Course Status)
    (found : Option Text) (r : Reading) (names : List Text)
    → Follows asked before name found r → HasAskedFront (go found) r names →
    HasAskedFront (Asks name go) (begun_at asked before r) (name ∷ names)
front_after asked before name go found r names f h = record {
  front = (h.front.0, (found, names ++ h.front.0, f.finds, refl, h.front.1));
  asked = asked_then asked r.asked_before r.asked_after (name ∷ []) names f.names h.asked;
}

-- the call that has this reading, and the one whose reading was begun earlier
abbrev pub later_call : Reading → Writing → Call
later_call r w = record { reads = r; writes = w }

abbrev pub whole_call : Option (List Text) → ℕ → Reading → Writing → Call
whole_call asked before r w = record { reads = begun_at asked before r; writes = w }

-- what explains a status of the rest explains it of the course
pub explained_after : (asked : Option (List Text)) (before : ℕ) (name : Text)
    (go : Option Text → Course Status) (found : Option Text) (r : Reading) (w : Writing) (s : Status)
    → Follows asked before name found r → IsExplained (go found) (later_call r w) s →
    IsExplained (Asks name go) (whole_call asked before r w) s
explained_after asked before name go found r w status.Done f e = record {
  taken = of_rest r.files name go found _ f.finds e.taken;
  asked = all_after asked before name go found r f e.asked;
}
explained_after asked before name go found r w (status.ReadFault n) f e = record {
  rose = rose_since before r.before r.after f.later e.rose;
  number = e.number;
  earlier = name ∷ e.earlier;
  last = e.last;
  asked = front_after asked before name go found r (e.earlier ++ e.last ∷ []) f e.asked;
  taken = e.taken;
}
explained_after asked before name go found r w (status.WriteFault n) f e = record {
  rose = e.rose;
  number = e.number;
  taken = of_rest r.files name go found _ f.finds e.taken;
  asked = all_after asked before name go found r f e.asked;
}
explained_after asked before name go found r w status.OutOfMemory f e = record {
  taken = of_rest r.files name go found _ f.finds e.taken;
  names = name ∷ e.names;
  asked = front_after asked before name go found r e.names f e.asked;
}
explained_after asked before name go found r w s f e = record {
  judged = of_rest r.files name go found _ f.finds e.judged;
  taken = e.taken;
  asked = all_after asked before name go found r f e.asked;
}

complete_inner : (files : Option Files) (name : Text) (go : Option Text → Course Status) (found : Option Text)
    (P : Type 0) (R : Outcome Status → Type 0)
    → Finds files name found → P ⊎ IfSome (verdict (go found) files) R →
    P ⊎ IfSome (verdict (Asks name go) files) R
complete_inner files name go found P R here (inl p) = inl p
complete_inner files name go found P R here (inr r) = inr (of_rest files name go found R here r)

pub top_call_after : (asked : Option (List Text)) (before : ℕ) (name : Text)
    (go : Option Text → Course Status) (found : Option Text) (r : Reading) (w : Writing) (s : Status)
    → Follows asked before name found r → IsTopCall (go found) (later_call r w) s →
    IsTopCall (Asks name go) (whole_call asked before r w) s
top_call_after asked before name go found r w s f e = record {
  explained = explained_after asked before name go found r w s f e.explained;
  complete = λ no_read no_write. complete_inner r.files name go found _ _ f.finds
      (e.complete (λ rose. no_read (rose_since before r.before r.after f.later rose)) no_write);
  once = record {
    reads = counted_then r.each before r.before r.after _ f.counted e.once.reads;
    writes = e.once.writes;
  };
}
