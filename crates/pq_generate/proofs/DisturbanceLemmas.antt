-- Where disturbances lie, and that at most one of them lies in a cycle.
use Rattle.std.proofs.Common.{◌≡◌, ℕ, zero, suc, ◌+◌, ◌-◌, ◌*◌, ◌<◌, ◌≤◌, List, [], ◌∷◌, ◌++◌, map, ℤ, refl, ◌∙◌, ap, arith}
use Rattle.std.proofs.lemmas.Bool.Decides.{nat_tests}
use Rattle.std.proofs.lemmas.List.{map-append}
use Rattle.std.proofs.lemmas.List.Sums.{fold-append}
use Rattle.pq_generate.specs.GeneratedRecording.{disturbance_by, disturbance_of, disturbances, disturbed, disturbed_by}
use Rattle.pq_generate.specs.declared.disturbance.Disturbance.{Disturbance}
use Rattle.pq_words.specs.Steps.{numbers_below, numbers_from}

-- ---- the laws of disturbances

pub begin_from : (seed index : ℕ) → 3000 * index + 100 ≤ (disturbance_of seed index).first_cycle
unfolding disturbance_by
begin_from seed index = omega arith

pub end_by : (seed index : ℕ) →
    (disturbance_of seed index).first_cycle + (disturbance_of seed index).cycles ≤ 3000 * index + 2149
unfolding disturbance_by
end_by seed index = omega arith

pub lie_apart : (seed index later : ℕ) → index < later →
    (disturbance_of seed index).first_cycle + (disturbance_of seed index).cycles
    ≤ (disturbance_of seed later).first_cycle
lie_apart seed index later below = omega (arith, end_by seed index, begin_from seed later)

-- ---- a disturbance does nothing before it begins, and nothing once it has ended

before : (d : Disturbance) (channel cycle : ℕ) (count : ℤ) → cycle < d.first_cycle →
    disturbed channel cycle count d ≡ count
before d channel cycle count early = grind (arith, nat_tests)

after : (d : Disturbance) (channel cycle : ℕ) (count : ℤ) → d.first_cycle + d.cycles ≤ cycle →
    disturbed channel cycle count d ≡ count
after d channel cycle count late = grind (arith, nat_tests)

-- ---- disturbances one after another

-- the disturbances of a seed, of some indices
abbrev of_indices : ℕ → List ℕ → List Disturbance
of_indices seed indices = map (disturbance_of seed) indices

-- where none of them does anything, a count stays
quiet : (seed channel cycle : ℕ) (count : ℤ) (low n : ℕ)
    → ((index : ℕ) → low ≤ index → index < low + n →
    disturbed channel cycle count (disturbance_of seed index) ≡ count)
    → disturbed_by (of_indices seed (numbers_from low n)) channel cycle count ≡ count
unfolding numbers_from
quiet seed channel cycle count low zero each = refl
quiet seed channel cycle count low (suc n) each =
    ap (λ x. disturbed_by (of_indices seed (numbers_from (low + 1) n)) channel cycle x)
    (each low (omega arith) (omega arith))
    ∙ quiet seed channel cycle count (low + 1) n (λ index from below. each index (omega arith) (omega arith))

-- those of lower indices than the cycle's have ended
quiet_below : (seed channel cycle index : ℕ) (count : ℤ) → 3000 * index ≤ cycle
    → disturbed_by (of_indices seed (numbers_from 0 index)) channel cycle count ≡ count
quiet_below seed channel cycle index count from = quiet seed channel cycle count 0 index
    (λ k _ below. after (disturbance_of seed k) channel cycle count (omega (arith, end_by seed k)))

-- those of higher indices have not begun
quiet_above : (seed channel cycle index n : ℕ) (count : ℤ) → cycle < 3000 * (index + 1)
    → disturbed_by (of_indices seed (numbers_from (index + 1) n)) channel cycle count ≡ count
quiet_above seed channel cycle index n count below = quiet seed channel cycle count (index + 1) n
    (λ k from _. before (disturbance_of seed k) channel cycle count (omega (arith, begin_from seed k)))

-- so many numbers, and then so many more
pub numbers_append : (low m n : ℕ) → numbers_from low (m + n) ≡ numbers_from low m ++ numbers_from (low + m) n
unfolding numbers_from
numbers_append low zero n = let e : zero + n ≡ n = omega arith in let f : low + zero ≡ low = omega arith in
    rw e (rw f refl)
numbers_append low (suc m) n =
    let e : suc m + n ≡ suc (m + n) = omega arith in
    let f : low + suc m ≡ low + 1 + m = omega arith in
    rw e (rw f (ap (λ xs. low ∷ xs) (numbers_append (low + 1) m n)))

-- the ten indices with one of them singled out
indices_split : (index : ℕ) → index < 10 →
    numbers_below 10 ≡ numbers_from 0 index ++ index ∷ numbers_from (index + 1) (9 - index)
unfolding numbers_from
indices_split index below =
    let ten : 10 ≡ index + suc (9 - index) = omega arith in
    let same : 0 + index ≡ index = omega arith in
    ap (numbers_from 0) ten ∙ numbers_append 0 index (suc (9 - index))
    ∙ ap (λ k. numbers_from 0 index ++ numbers_from k (suc (9 - index))) same

-- in the 3000 cycles of an index only its disturbance does something
pub only_one : (seed channel cycle index : ℕ) (count : ℤ) → index < 10 → 3000 * index ≤ cycle →
    cycle < 3000 * (index + 1) →
    disturbed_by (disturbances seed) channel cycle count
    ≡ disturbed_by (disturbance_of seed index ∷ []) channel cycle count
only_one seed channel cycle index count below from to =
    let lower : List Disturbance = of_indices seed (numbers_from 0 index) in
    let higher : List Disturbance = of_indices seed (numbers_from (index + 1) (9 - index)) in
    let own : Disturbance = disturbance_of seed index in
    ap (λ indices. disturbed_by (of_indices seed indices) channel cycle count) (indices_split index below)
    ∙ ap (λ ds. disturbed_by ds channel cycle count)
    (map-append (disturbance_of seed) (numbers_from 0 index) (index ∷ numbers_from (index + 1) (9 - index)))
    ∙ fold-append (disturbed channel cycle) count lower (own ∷ higher)
    ∙ ap (λ x. disturbed_by (own ∷ higher) channel cycle x) (quiet_below seed channel cycle index count from)
    ∙ quiet_above seed channel cycle index (9 - index) (disturbed channel cycle count own) to

-- behind the cycles of the last none does
pub none_behind : (seed channel cycle : ℕ) (count : ℤ) → 30000 ≤ cycle →
    disturbed_by (disturbances seed) channel cycle count ≡ count
none_behind seed channel cycle count from = quiet_below seed channel cycle 10 count from
