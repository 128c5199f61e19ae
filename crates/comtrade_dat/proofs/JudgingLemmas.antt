-- Records judged one after another, and the first fault.
use Rattle.std.proofs.Common.{◌≡◌, ◌∙◌, ℕ, zero, suc, ◌+◌, ◌-◌, ◌*◌, ◌≤◌, List, [], ◌∷◌, ◌++◌, map, refl, ap, subst, arith, Result, Ok, Err}
use Rattle.std.proofs.lemmas.List.FromFn.{map-range_with_len_more}
use Rattle.std.proofs.lemmas.Nat.{mul-le}
use Rattle.std.specs.List.{range_with_len}
use Rattle.comtrade_dat.specs.Samples.{first_fault}
use Rattle.comtrade_dat.specs.declared.dat_fault.DatFault.{DatFault}
use Rattle.pq_words.specs.FirstFault.{◌>>=◌}

-- those after the first judgements count only where these found none
pub first_fault-append : (front back : List (Result (Unit {0}) DatFault)) →
    first_fault (front ++ back) ≡ (first_fault front >>= (λ good. first_fault back))
first_fault-append [] back = refl
first_fault-append (Ok good ∷ front) back = first_fault-append front back
first_fault-append (Err found ∷ front) back = refl

-- where they found none, the rest decides
pub first_fault_after : (front back : List (Result (Unit {0}) DatFault)) → first_fault front ≡ Ok (tt {0}) →
    first_fault (front ++ back) ≡ first_fault back
first_fault_after front back good = first_fault-append front back
    ∙ ap (λ r. r >>= (λ good. first_fault back)) good

-- a fault that was found stays the first
pub first_fault_stays : (front back : List (Result (Unit {0}) DatFault)) (e : DatFault) → first_fault front
    ≡ Err e →
    first_fault (front ++ back) ≡ Err e
first_fault_stays front back e found = first_fault-append front back
    ∙ ap (λ r. r >>= (λ good. first_fault back)) found

pub alone : (judged : Result (Unit {0}) DatFault) → first_fault (judged ∷ []) ≡ judged
alone (Ok good) = refl
alone (Err found) = refl

-- one more record, after good ones
pub judged_next : (judged : ℕ → Result (Unit {0}) DatFault) (n : ℕ) →
    first_fault (map judged (range_with_len 0 n)) ≡ Ok (tt {0}) →
    first_fault (map judged (range_with_len 0 (n + 1))) ≡ judged n
judged_next judged n good =
    ap first_fault (map-range_with_len_more judged 0 n n (omega arith))
    ∙ (first_fault_after (map judged (range_with_len 0 n)) (judged n ∷ []) good ∙ alone (judged n))

-- a fault among the first k is that of the first k + more
fault_among_more : (judged : ℕ → Result (Unit {0}) DatFault) (e : DatFault) (k more : ℕ) →
    first_fault (map judged (range_with_len 0 k)) ≡ Err e →
    first_fault (map judged (range_with_len 0 (k + more))) ≡ Err e
fault_among_more judged e k zero found =
    let same : k ≡ k + 0 = omega arith in
    subst (λ n. first_fault (map judged (range_with_len 0 n)) ≡ Err e) same found
fault_among_more judged e k (suc more) found =
    let same : k + more + 1 ≡ k + suc more = omega arith in
    subst (λ n. first_fault (map judged (range_with_len 0 n)) ≡ Err e) same
    (ap first_fault (map-range_with_len_more judged 0 (k + more) (k + more) (omega arith))
    ∙ first_fault_stays (map judged (range_with_len 0 (k + more))) (judged (k + more) ∷ []) e
    (fault_among_more judged e k more found))

-- the same of any number of records from k on
pub fault_among : (judged : ℕ → Result (Unit {0}) DatFault) (e : DatFault) (k n : ℕ) → k ≤ n →
    first_fault (map judged (range_with_len 0 k)) ≡ Err e →
    first_fault (map judged (range_with_len 0 n)) ≡ Err e
fault_among judged e k n below found =
    let same : k + (n - k) ≡ n = omega (arith, below) in
    subst (λ n. first_fault (map judged (range_with_len 0 n)) ≡ Err e) same
    (fault_among_more judged e k (n - k) found)

-- records before the end of whole ones are whole
pub whole_before : (size n end bytes : ℕ) → n ≤ end → size * end ≤ bytes → size * n ≤ bytes
whole_before size n end bytes before whole =
    let same : size ≤ size = omega arith in
    omega (arith, mul-le size n size end same before, whole)
