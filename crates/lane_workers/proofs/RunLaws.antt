-- What a session was given, and what is printed then.
use Rattle.std.proofs.Common.{◌≡◌, ℕ, ◌+◌, ◌≤◌, zero, suc, Bool, false, List, [], ◌∷◌, ◌++◌, get_or, length, take, slice_get, Some, Result, Err, refl, sym, ap, ◌∙◌, subst, arith, ◌⊎◌, inl, inr}
use Rattle.std.specs.List as elements
use Rattle.std.proofs.lemmas.List.{append-nil, append_assoc, take_more}
use Rattle.std.proofs.lemmas.Option.{get_or_from_slice_get, slice_get-get_or, slice_get_within}
use Rattle.event_detect.specs.declared.limits.Limits.{Limits}
use Rattle.interval_ledger.specs.declared.ledger.Ledger.{Ledger}
use Rattle.interval_ledger.specs.declared.subject.Subject.{Subject}
use Rattle.lane_workers.specs.declared.printer.Printer as printer
use Rattle.lane_workers.specs.declared.ran.Ran.{Ran}
use Rattle.lane_workers.specs.declared.ran.Ran.TheVariants.{All, Failed, OutOfMemory}
use Rattle.lane_workers.specs.Running.{BrokeInPrefix, IsAlone, HasRun, IsPrinting, PrintedPrefix, RunsTo, run_of}
use Rattle.pq_base.specs.Causes.{CountsOnce, Rose, count_after}
use Rattle.pq_base.specs.Recorded.{Recorded, IsRecording}
use Rattle.pq_items.specs.declared.item.Item as items
use Rattle.pq_items.specs.ItemRange.{IsItemInRange}
use Rattle.pq_sequence.specs.SequentialResult.{sequential}
use Rattle.pq_sequence.proofs.RangeLaws.{items_in_range}
use Rattle.pq_sequence.proofs.ResultLaws.{result_in_range}
use Rattle.progress_words.specs.declared.shared.Shared.{Ghosts}
use Rattle.query_session.specs.declared.answer.Next.{Next}
use Rattle.query_session.specs.declared.answer.Next.TheVariants as next
use Rattle.query_session.specs.declared.session.SessionOf.{SessionOf}
use Rattle.query_session.proofs.ListLaws.{get_take}
use Rattle.query_session.specs.Reading.{AreNext, cursor_after}
use Rattle.query_session.specs.Session.{AnswersAt, FoundStop, IsIdle, TriedTurn, view_of}
use Rattle.progress_words.specs.PassView.{after_stop, reader_part}
use Rattle.lane_workers.specs.declared.printer.PrintFault.{PrintFault}
use Rattle.lane_workers.specs.declared.printer.PrintFault.TheVariants as fault
use Rattle.lane_workers.specs.Printing.{BreaksAmong, Extends, is_failed}

-- ---- what a session was given

abbrev pub result_named : Subject → List items.Item
result_named name = sequential name.recording name.limits

-- a session of the same name, alone if it was
pub record StaysAlone {g : Ghosts Ledger Subject} (old new : SessionOf Ledger g) : Type 0 where
  pub name : (view_of new).name ≡ (view_of old).name
  pub alone : IsAlone old → IsAlone new

tried : {g : Ghosts Ledger Subject} (old new : SessionOf Ledger g) (word : ℕ) →
    TriedTurn word (view_of old) (view_of new) → StaysAlone old new
tried old new word t = record {
  name = t.name;
  alone = λ h. (t.loaded.splits ∙ h.0, t.loaded.wrote ∙ h.1);
}

found_stop : {g : Ghosts Ledger Subject} (old new : SessionOf Ledger g) →
    FoundStop (view_of old) (view_of new) → StaysAlone old new
found_stop old new h = record {
  name = ap (λ v. v.name) h.0;
  alone = λ alone. (
    ap (λ v. (reader_part v.role).splits) h.0 ∙ alone.0,
    ap (λ v. (reader_part v.role).wrote_stop) h.0 ∙ alone.1,
  );
}

-- whatever a session is answered
pub stays_alone : {g : Ghosts Ledger Subject} (old new : SessionOf Ledger g) (k : ℕ) (result : Next) →
    AnswersAt (view_of old) k new result → StaysAlone old new
stays_alone old new k (next.Item x) h = tried old new 0 h.0
stays_alone old new k (next.Withheld lane word) h = tried old new 0 h.0
stays_alone old new k next.End h = tried old new 0 h.0
stays_alone old new k next.OutOfMemory h = tried old new 0 h
stays_alone old new k (next.Busy word) h = tried old new word h.0
stays_alone old new k next.Halted h = found_stop old new h

-- the front after the item at its end
pub take_next : {A : Type 0} (xs : List A) (k : ℕ) (x : A) → slice_get xs k ≡ Some x →
    take k xs ++ x ∷ [] ≡ take (k + 1) xs
take_next xs k x e = ap (λ y. take k xs ++ y ∷ []) (sym (get_or_from_slice_get xs k x x e))
    ∙ sym (take_more xs k x (slice_get_within xs k x e))

-- a front with the items that are next
pub next_front : (all xs : List items.Item) (k : ℕ) → AreNext all k xs →
    take k all ++ xs ≡ take (k + length xs) all
next_front all [] k following =
    append-nil (take k all) ∙ ap (λ n. take n all) {x = k} {y = k + 0} (omega arith)
next_front all (x ∷ rest) k following =
    let same : k + 0 ≡ k = omega arith in
    let first : slice_get all k ≡ Some x = ap (slice_get all) (sym same) ∙ following 0 x refl in
    let later : AreNext all (k + 1) rest =
    λ i y e. let at : k + 1 + i ≡ k + suc i = omega arith in ap (slice_get all) at ∙ following (suc i) y e in
    let long : k + 1 + length rest ≡ k + suc (length rest) = omega arith in
    sym (append_assoc (take k all) (x ∷ []) rest)
    ∙ (ap (λ front. front ++ rest) (take_next all k x first)
    ∙ (next_front all rest (k + 1) later ∙ ap (λ n. take n all) long))

-- the first of items that are next are next
first_next : (all xs : List items.Item) (k n : ℕ) → AreNext all k xs → AreNext all k (take n xs)
first_next all xs k n following i x e = following i x (get_take n i xs x e)

-- one item is next
pub one_next : (all : List items.Item) (k : ℕ) (x : items.Item) → slice_get all k ≡ Some x →
    AreNext all k (x ∷ [])
one_next all k x e zero y is =
    let same : k ≡ k + 0 = omega arith in
    sym (ap (slice_get all) same) ∙ (e ∙ is)
one_next all k x e (suc i) y is = absurd cc

-- what holds of the front with the first of the next items holds of a front
pub front_broken : (all xs : List items.Item) (k : ℕ) (before after : List items.Item → Type 0) →
    AreNext all k xs → before (take k all) → BreaksAmong before xs after → (n : ℕ) × after (take n all)
front_broken all xs k before after following h broken =
    let some = take broken.0 xs in (
      k + length some,
      subst after (next_front all some k (first_next all xs k broken.0 following))
          (broken.2 (take k all) h),
    )

-- what was printed, and then several items
pub several_printed : (all xs slice : List items.Item) (k : ℕ) (before after : List items.Item → Type 0) →
    slice ≡ xs → AreNext all k xs → Extends before slice after → before (take k all) →
    after (take (k + length xs) all)
several_printed all xs slice k before after same following extends h =
    subst after (next_front all xs k following)
    (subst (λ s. after (take k all ++ s)) same (extends (take k all) h))

-- no answer but an item moves the cursor
pub stays : (result : Next) (k : ℕ) → ((x : items.Item) → result ≡ next.Item x → ⊥) →
    cursor_after k result ≡ k
stays (next.Item x) k no_item = absurd (no_item x refl)
stays (next.Withheld lane word) k no_item = refl
stays next.End k no_item = refl
stays next.OutOfMemory k no_item = refl
stays (next.Busy word) k no_item = refl
stays next.Halted k no_item = refl

-- an item of the result of a recording is in range
pub in_range : (r : Recorded) (limits : Limits) (k : ℕ) (x : items.Item) → IsRecording r →
    slice_get (sequential r limits) k ≡ Some x → IsItemInRange x
in_range r limits k x is e =
    let all = result_in_range r limits (items_in_range r is limits) in
    subst IsItemInRange (get_or_from_slice_get (sequential r limits) k x x e)
    (all k x (slice_get_within (sequential r limits) k x e))

-- and so are those that are next in it
pub next_in_range : (r : Recorded) (limits : Limits) (k : ℕ) (xs : List items.Item) → IsRecording r →
    AreNext (sequential r limits) k xs → elements.All IsItemInRange xs
next_in_range r limits k xs is following i d below =
    in_range r limits (k + i) (get_or xs i d) is
    (following i (get_or xs i d) (slice_get-get_or xs i d below))

-- ---- one turn after others

pub rose_later : (a b c : ℕ) → a ≤ b → Rose b c → Rose a c
rose_later a b c l (inl h) = inl (omega arith)
rose_later a b c l (inr h) = inr h

pub counts_on : (each : Bool) (a b c : ℕ) (failed : Bool) → CountsOnce each a b false →
    CountsOnce each b c failed → CountsOnce each a c failed
counts_on each a b c failed first rest t = rest t ∙ ap (count_after failed) (first t)

module _ {P M : Type 0} {g : Ghosts Ledger Subject} (way : printer.Ghosts P M)
    (start mid now : SessionOf Ledger g) (p q r : P) where
  -- printing goes on
  pub printing_on : IsPrinting way start mid p q → IsPrinting way mid now q r → IsPrinting way start now p r
  printing_on a b = let x = a.rises in let y = b.rises in record {
    made_with = b.made_with ∙ a.made_with;
    rises = omega arith;
    counted = counts_on way.counts_each (way.count p) (way.count q) (way.count r) false a.counted b.counted;
    name = b.name ∙ a.name;
    idle = b.idle;
    alone = b.alone;
    prints = subst (λ n. way.printed r (take now.cursor (result_named n))) a.name b.prints;
  }

  abbrev Goes : SessionOf Ledger g → P → Ran → Type 0
  Goes s x ran = RunsTo way.made way.printed way.broke way.count way.counts_each s now x r ran

  runs_to : (ran : Ran) → (view_of mid).name ≡ (view_of start).name → way.count p ≤ way.count q →
      Goes mid q ran → Goes start p ran
  runs_to All n l h = (
    subst (λ x. way.printed r (result_named x)) n h.0,
    h.1 ∙ ap (λ x. length (result_named x)) n,
    h.2,
  )
  runs_to Failed n l h = (
    rose_later (way.count p) (way.count q) (way.count r) l h.0,
    subst (λ x. BrokeInPrefix way.broke (result_named x) r) n h.1,
    h.2,
  )
  runs_to OutOfMemory n l h = (
    subst (λ x. PrintedPrefix way.printed (result_named x) r ⊎ BrokeInPrefix way.broke (result_named x) r) n
        h.0,
    h.1,
  )

  -- and ends
  pub runs_on : (ran : Ran) → IsPrinting way start mid p q → HasRun way mid now q r ran →
      HasRun way start now p r ran
  runs_on ran a b = let x = a.rises in let y = b.rises in record {
    made_with = b.made_with ∙ a.made_with;
    rises = omega arith;
    counted = counts_on way.counts_each (way.count p) (way.count q) (way.count r) _ a.counted b.counted;
    name = b.name ∙ a.name;
    idle = b.idle;
    runs_to = runs_to ran a.name a.rises b.runs_to;
  }

-- where the printer broke off, the chain was halted
module _ {P M : Type 0} {g : Ghosts Ledger Subject} (way : printer.Ghosts P M)
    (start mid now : SessionOf Ledger g) (p q : P) (result : Result (Unit {0}) PrintFault) where
  counted_by : (why : PrintFault) → result ≡ Err why →
      CountsOnce way.counts_each (way.count p) (way.count q) (is_failed result) →
      CountsOnce way.counts_each (way.count p) (way.count q) (is_failed {X = Unit {0}} (Err why))
  counted_by why is counted =
      subst (λ r. CountsOnce way.counts_each (way.count p) (way.count q) (is_failed r)) is counted

  pub broke_off : (why : PrintFault) → result ≡ Err why → way.made q ≡ way.made p →
      way.count p ≤ way.count q →
      CountsOnce way.counts_each (way.count p) (way.count q) (is_failed result) →
      (result ≡ Err fault.Failed → Rose (way.count p) (way.count q)) →
      (view_of mid).name ≡ (view_of start).name → view_of now ≡ after_stop (view_of mid) → IsIdle now →
      BrokeInPrefix way.broke (result_named (view_of start).name) q → HasRun way start now p q (run_of why)
  broke_off fault.Failed is made rises counted failed name halted idle broke = record {
    made_with = made;
    rises = rises;
    counted = counted_by fault.Failed is counted;
    name = ap (λ v. v.name) halted ∙ name;
    idle = idle;
    runs_to = (failed is, broke, ap (λ v. (reader_part v.role).wrote_stop) halted);
  }
  broke_off fault.OutOfMemory is made rises counted failed name halted idle broke = record {
    made_with = made;
    rises = rises;
    counted = counted_by fault.OutOfMemory is counted;
    name = ap (λ v. v.name) halted ∙ name;
    idle = idle;
    runs_to = (inr broke, ap (λ v. (reader_part v.role).wrote_stop) halted);
  }

-- what holds of all holds of the first and of the rest
pub all_first : {A : Type 0} (F : A → Type 0) (xs ys : List A) (x : A) → xs ≡ x ∷ ys → elements.All F xs →
    F x × elements.All F ys
all_first F xs ys x e h =
    let h' = subst (elements.All F) e h in (h' 0 x (omega arith), λ k d l. h' (suc k) d (omega arith))
