-- Records that are found good without their faults are judged so.
use Rattle.std.proofs.Common.{◌≡◌, ◌≢◌, ◌∙◌, ℕ, zero, suc, ◌+◌, ◌-◌, ◌<◌, ◌≤◌, Bool, true, false, cond, ◌&&◌, nat_lt, List, [], ◌∷◌, map, refl, ap, subst, arith, Option, Some, None, Result, Ok}
use Rattle.std.specs.Prelude.{find}
use Rattle.std.proofs.lemmas.Bool.Decides.{Decides-int_eq, nat_tests}
use Rattle.std.proofs.lemmas.List.Elements.{All-head, All-tail, All-weaker}
use Rattle.std.specs.List.{All, range_with_len}
use Rattle.comtrade_dat.specs.BinaryRecord.{count_in, number_in, record_at}
use Rattle.comtrade_dat.specs.Run.{AreNumbered, HaveCounts, is_numbered_after, judged_bytes, judged_in, judged_run, number_before}
use Rattle.comtrade_dat.specs.Samples.{first_fault, is_missing, none_missing}
use Rattle.comtrade_dat.specs.declared.dat_fault.DatFault.{DatFault}
use Rattle.comtrade_dat.specs.declared.dat_fault.DatFault.TheVariants as fault
use Rattle.comtrade_dat.specs.declared.limits.TheConstants.{MISSING_COUNT}
use Rattle.comtrade_dat.specs.declared.run_start.RunStart.{RunStart}
use Rattle.comtrade_dat.proofs.JudgingLemmas.{judged_next}
use Rattle.pq_words.specs.FirstFault.{◌>>=◌, provided}
use Rattle.pq_words.specs.Text.{Text}

-- ---- one more index

-- what holds from one index to another, and there, holds to the index after it
one_more : (P : ℕ → Type 0) (from index : ℕ) → ((i : ℕ) → from ≤ i → i < index → P i) → P index → (i : ℕ) →
    from ≤ i → i < index + 1 → P i
one_more P from index so_far here i low high = at (nat_lt i index) refl
  where
    at : (b : Bool) → nat_lt i index ≡ b → P i
    at true h = so_far i low (grind (arith, nat_tests, h))
    at false h = let same : index ≡ i = grind (arith, nat_tests, h, high) in subst P same here

-- the same as a test tells it that goes on
pub told_on : (P : ℕ → Type 0) (from index : ℕ) (so_far here : Bool) →
    (so_far ≡ true → (i : ℕ) → from ≤ i → i < index → P i) → (here ≡ true → P index) →
    (so_far && here) ≡ true → (i : ℕ) → from ≤ i → i < index + 1 → P i
told_on P from index true true before there told = one_more P from index (before refl) (there refl)
told_on P from index true false before there told = absurd cc
told_on P from index false here before there told = absurd cc

-- ---- one record

-- none is found where none passes
none_found : (p : ℕ → Bool) (xs : List ℕ) → All (λ x. p x ≡ false) xs → find p xs ≡ None
none_found p [] none = refl
none_found p (x ∷ xs) none =
    ap (λ passes. cond passes (Some x) (find p xs)) (All-head (λ x. p x ≡ false) x xs none)
    ∙ none_found p xs (All-tail (λ x. p x ≡ false) x xs none)

is_false : (b : Bool) → b ≢ true → b ≡ false
is_false true never = absurd (never refl)
is_false false never = refl

-- a record whose number follows, and that has all counts, is good
judged_good : (positions : List ℕ) (before : Option ℕ) (at : ℕ) (bytes : Text) →
    is_numbered_after before (number_in bytes) ≡ true →
    All (λ position. count_in bytes position ≢ MISSING_COUNT) positions →
    judged_bytes positions before at bytes ≡ Ok (tt {0})
judged_good positions before at bytes numbered counted =
    let none : find (is_missing bytes) positions ≡ None =
    none_found (is_missing bytes) positions
    (All-weaker (λ position. count_in bytes position ≢ MISSING_COUNT)
    (λ position. is_missing bytes position ≡ false)
    (λ position there. is_false (is_missing bytes position)
    (λ is. there ((Decides-int_eq (count_in bytes position) MISSING_COUNT).0 is)))
    positions counted) in
    ap (λ b. provided b (fault.Number at (number_in bytes)) (tt {0})
    >>= (λ good. none_missing at (find (is_missing bytes) positions))) numbered
    ∙ ap (none_missing at) none

-- ---- a run

-- judgements that find no fault are no fault's
good_on : (judged : ℕ → Result (Unit {0}) DatFault) (from more : ℕ) →
    ((i : ℕ) → from ≤ i → i < from + more → judged i ≡ Ok (tt {0})) →
    first_fault (map judged (range_with_len 0 from)) ≡ Ok (tt {0}) →
    first_fault (map judged (range_with_len 0 (from + more))) ≡ Ok (tt {0})
good_on judged from zero each good =
    let same : from ≡ from + 0 = omega arith in
    subst (λ n. first_fault (map judged (range_with_len 0 n)) ≡ Ok (tt {0})) same good
good_on judged from (suc more) each good =
    let same : from + more + 1 ≡ from + suc more = omega arith in
    let before : first_fault (map judged (range_with_len 0 (from + more))) ≡ Ok (tt {0}) =
    good_on judged from more (λ i low high. each i low (omega (arith, high))) good in
    subst (λ n. first_fault (map judged (range_with_len 0 n)) ≡ Ok (tt {0})) same
    (judged_next judged (from + more) before ∙ each (from + more) (omega arith) (omega arith))

-- good records after good ones
pub good_records : (size : ℕ) (positions : List ℕ) (start : RunStart) (run : Text) (from end : ℕ) →
    from ≤ end → AreNumbered size start.before run from end →
    All (HaveCounts size run from end) positions →
    first_fault (judged_run size positions start run from) ≡ Ok (tt {0}) →
    first_fault (judged_run size positions start run end) ≡ Ok (tt {0})
good_records size positions start run from end forward numbered counted good =
    let judged = judged_in size positions start run in
    let same : from + (end - from) ≡ end = omega (arith, forward) in
    let each : (i : ℕ) → from ≤ i → i < from + (end - from) → judged i ≡ Ok (tt {0}) =
    λ i low high.
    let bytes = record_at size run i in
    judged_good positions (number_before size start.before run i) (start.index + i + 1) bytes
    (numbered i low (omega (arith, high)))
    (All-weaker (HaveCounts size run from end) (λ position. count_in bytes position ≢ MISSING_COUNT)
    (λ position have. have i low (omega (arith, high))) positions counted) in
    subst (λ n. first_fault (map judged (range_with_len 0 n)) ≡ Ok (tt {0})) same
    (good_on judged from (end - from) each good)
