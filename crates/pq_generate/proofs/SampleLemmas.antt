-- Samples one after another, and how large they are.
use Rattle.std.proofs.Common.{◌≡◌, ℕ, zero, suc, ◌+◌, ◌-◌, ◌*◌, ◌/◌, ◌%◌, ◌<◌, ◌≤◌, List, [], ◌∷◌, ◌++◌, length, map, get_or, ℤ, pos, negsuc, neg_ℤ, ◌+ℤ◌, ◌*ℤ◌, unsigned_abs, to_z, of_z, refl, sym, ◌∙◌, ap, arith}
use Rattle.std.proofs.lemmas.List.{length-map, map-append, append_assoc}
use Rattle.std.specs.List.{All}
use Rattle.std.proofs.lemmas.Int.{fits_signed_from_abs, ints, to_z-of_z, unsigned_abs-mul}
use Rattle.std.specs.Int.{w16, w64}
use Rattle.std.proofs.lemmas.List.Elements.{All-map}
use Rattle.pq_base.specs.Decimal.{rounded_quotient, rounded_ratio}
use Rattle.pq_base.specs.Sample.{sample_of}
use Rattle.pq_generate.proofs.CountLemmas.{counts_within}
use Rattle.pq_generate.proofs.DisturbanceLemmas.{none_behind, numbers_append, only_one}
use Rattle.pq_generate.specs.GeneratedRecording.{count_at, disturbance_of, disturbances, disturbed_by, sine}
use Rattle.pq_generate.specs.MeasuredRecording.{sample_at, samples_between}
use Rattle.pq_generate.specs.declared.disturbance.Disturbance.{Disturbance}
use Rattle.pq_words.proofs.StepLaws.{length_numbers}
use Rattle.pq_words.specs.Magnitude.{IsWithin}
use Rattle.pq_words.specs.Steps.{numbers_from}

-- ---- one after another

-- no samples
pub samples_none : (ds : List Disturbance) (channel low : ℕ) → samples_between ds channel low low ≡ []
unfolding samples_between numbers_from
samples_none ds channel low = let e : low - low ≡ zero = omega arith in rw e refl

-- those up to a place, and those from there on
pub samples_join : (ds : List Disturbance) (channel low middle high : ℕ) → low ≤ middle → middle ≤ high →
    samples_between ds channel low middle ++ samples_between ds channel middle high
    ≡ samples_between ds channel low high
unfolding samples_between
samples_join ds channel low middle high from to =
    let there : low + (middle - low) ≡ middle = omega arith in
    let whole : middle - low + (high - middle) ≡ high - low = omega arith in
    ap (λ k. map (sample_at ds channel) (numbers_from low (middle - low)) ++ map (sample_at ds channel)
    (numbers_from k (high - middle))) (sym there)
    ∙ sym (map-append (sample_at ds channel) (numbers_from low (middle - low))
    (numbers_from (low + (middle - low)) (high - middle)))
    ∙ ap (map (sample_at ds channel)) (sym (numbers_append low (middle - low) (high - middle)))
    ∙ ap (λ n. map (sample_at ds channel) (numbers_from low n)) whole

-- one sample
samples_one : (ds : List Disturbance) (channel i : ℕ)
    → samples_between ds channel i (i + 1) ≡ sample_at ds channel i ∷ []
unfolding samples_between numbers_from
samples_one ds channel i = let e : i + 1 - i ≡ suc zero = omega arith in rw e refl

-- one more sample
pub samples_push : (ds : List Disturbance) (channel low i : ℕ) → low ≤ i →
    samples_between ds channel low i ++ sample_at ds channel i ∷ [] ≡ samples_between ds channel low (i + 1)
samples_push ds channel low i from =
    ap (λ samples. samples_between ds channel low i ++ samples) (sym (samples_one ds channel i))
    ∙ samples_join ds channel low i (i + 1) from (omega arith)

-- samples of the same counts are the same
same_map : (ds es : List Disturbance) (channel low n : ℕ)
    → ((i : ℕ) → low ≤ i → i < low + n → count_at ds channel i ≡ count_at es channel i)
    → map (sample_at ds channel) (numbers_from low n) ≡ map (sample_at es channel) (numbers_from low n)
unfolding numbers_from
same_map ds es channel low zero same = refl
same_map ds es channel low (suc n) same =
    let first : count_at ds channel low ≡ count_at es channel low = same low (omega arith) (omega arith) in
    let later : map (sample_at ds channel) (numbers_from (low + 1) n) ≡ map (sample_at es channel)
    (numbers_from (low + 1) n) =
    same_map ds es channel (low + 1) n (λ i from below. same i (omega arith) (omega arith)) in
    λ t. sample_of (pos 32500000000) (pos 0) (first t) ∷ later t

same_samples : (ds es : List Disturbance) (channel low high : ℕ) → low ≤ high
    → ((i : ℕ) → low ≤ i → i < high → count_at ds channel i ≡ count_at es channel i)
    → samples_between ds channel low high ≡ samples_between es channel low high
unfolding samples_between
same_samples ds es channel low high ordered same = same_map ds es channel low (high - low)
    (λ i from below. same i from (omega arith))

-- the samples of the cycles of an index are those of its disturbance alone
samples_of_index : (seed channel index : ℕ) → index < 10
    → samples_between (disturbance_of seed index ∷ []) channel (24 * (3000 * index))
    (24 * (3000 * index + 3000))
    ≡ samples_between (disturbances seed) channel (24 * (3000 * index)) (24 * (3000 * index + 3000))
unfolding count_at
samples_of_index seed channel index below = same_samples (disturbance_of seed index ∷ []) (disturbances seed)
    channel (24 * (3000 * index)) (24 * (3000 * index + 3000)) (omega arith)
    (λ i from to. sym (only_one seed channel (i / 24) index (get_or sine (i % 24) (pos 0)) below
    (omega arith) (omega arith)))

-- those behind the cycles of the last are the sine's
pub samples_behind : (seed channel : ℕ)
    → samples_between [] channel (24 * 30000) (24 * 30100)
    ≡ samples_between (disturbances seed) channel (24 * 30000) (24 * 30100)
unfolding count_at
samples_behind seed channel = same_samples [] (disturbances seed) channel (24 * 30000) (24 * 30100)
    (omega arith)
    (λ i from to. sym (none_behind seed channel (i / 24) (get_or sine (i % 24) (pos 0)) (omega arith)))

-- the sample of a place in a cycle
sample_in_cycle : (ds : List Disturbance) (channel cycle place : ℕ) → place < 24
    → sample_at ds channel (24 * cycle + place)
    ≡ sample_of (pos 32500000000) (pos 0) (disturbed_by ds channel cycle (get_or sine place (pos 0)))
unfolding count_at
sample_in_cycle ds channel cycle place below =
    let quotient : (24 * cycle + place) / 24 ≡ cycle = omega arith in
    let rest : (24 * cycle + place) % 24 ≡ place = omega arith in
    λ t. sample_of (pos 32500000000) (pos 0)
    (disturbed_by ds channel (quotient t) (get_or sine (rest t) (pos 0)))

-- one more sample of a cycle
pub sample_pushed : (ds : List Disturbance) (front : List ℤ) (sample : ℤ) (channel cycle place : ℕ)
    → place < 24
    → sample ≡ sample_of (pos 32500000000) (pos 0) (disturbed_by ds channel cycle (get_or sine place (pos 0)))
    → front ++ samples_between ds channel (24 * cycle) (24 * cycle + place) ++ sample ∷ []
    ≡ front ++ samples_between ds channel (24 * cycle) (24 * cycle + (place + 1))
sample_pushed ds front sample channel cycle place below e =
    let far : 24 * cycle + place + 1 ≡ 24 * cycle + (place + 1) = omega arith in
    append_assoc front (samples_between ds channel (24 * cycle) (24 * cycle + place)) (sample ∷ [])
    ∙ ap (λ s. front ++ (samples_between ds channel (24 * cycle) (24 * cycle + place) ++ s ∷ []))
    (e ∙ sym (sample_in_cycle ds channel cycle place below))
    ∙ ap (λ rest. front ++ rest) (samples_push ds channel (24 * cycle) (24 * cycle + place) (omega arith))
    ∙ ap (λ high. front ++ samples_between ds channel (24 * cycle) high) far

-- and one more cycle
pub samples_cycle_pushed : (ds : List Disturbance) (front : List ℤ) (channel start cycle : ℕ) → start ≤ cycle
    → front ++ samples_between ds channel (24 * start) (24 * cycle)
    ++ samples_between ds channel (24 * cycle) (24 * (cycle + 1))
    ≡ front ++ samples_between ds channel (24 * start) (24 * (cycle + 1))
samples_cycle_pushed ds front channel start cycle from =
    append_assoc front (samples_between ds channel (24 * start) (24 * cycle))
    (samples_between ds channel (24 * cycle) (24 * (cycle + 1)))
    ∙ ap (λ rest. front ++ rest)
    (samples_join ds channel (24 * start) (24 * cycle) (24 * (cycle + 1)) (omega arith) (omega arith))

-- the cycles of one more index
pub samples_index_pushed : (seed channel index : ℕ) → index < 10
    → samples_between (disturbances seed) channel 0 (24 * (3000 * index))
    ++ samples_between (disturbance_of seed index ∷ []) channel (24 * (3000 * index))
    (24 * (3000 * index + 3000))
    ≡ samples_between (disturbances seed) channel 0 (24 * (3000 * (index + 1)))
samples_index_pushed seed channel index below =
    let far : 24 * (3000 * index + 3000) ≡ 24 * (3000 * (index + 1)) = omega arith in
    ap (λ rest. samples_between (disturbances seed) channel 0 (24 * (3000 * index)) ++ rest)
    (samples_of_index seed channel index below)
    ∙ samples_join (disturbances seed) channel 0 (24 * (3000 * index)) (24 * (3000 * index + 3000))
    (omega arith) (omega arith)
    ∙ ap (samples_between (disturbances seed) channel 0) far

-- ---- how many, and how large

pub length_samples : (ds : List Disturbance) (channel low high : ℕ)
    → length (samples_between ds channel low high) ≡ high - low
unfolding samples_between
length_samples ds channel low high =
    length-map (numbers_from low (high - low)) (sample_at ds channel) ∙ length_numbers low (high - low)

-- below zero a sample is rounded as its magnitude is
rounded_below : (z : ℤ) (n : ℕ) → z ≡ negsuc (32500000000 * n + 32499999999)
    → rounded_ratio z 1000000 ≡ negsuc (32500 * n + 32499)
rounded_below (pos m) n e = absurd (omega (arith, ints, e))
rounded_below (negsuc m) n e =
    let quotient : rounded_quotient (m + 1) 1000000 ≡ 32500 * n + 32500 = omega (arith, ints, e) in
    let below : neg_ℤ (pos (32500 * n + 32500)) ≡ negsuc (32500 * n + 32499) = omega (arith, ints) in
    ap (λ k. neg_ℤ (pos k)) quotient ∙ below

-- a count is 32,500 microvolts
pub sample_is : (count : ℤ) → sample_of (pos 32500000000) (pos 0) count ≡ pos 32500 *ℤ count
unfolding sample_of
sample_is (pos n) = omega (arith, ints)
sample_is (negsuc n) =
    let picovolts : (pos 32500000000 *ℤ negsuc n) +ℤ pos 0 ≡ negsuc (32500000000 * n + 32499999999) =
    omega (arith, ints) in
    let microvolts : negsuc (32500 * n + 32499) ≡ pos 32500 *ℤ negsuc n = omega (arith, ints) in
    rounded_below ((pos 32500000000 *ℤ negsuc n) +ℤ pos 0) n picovolts ∙ microvolts

-- so no sample is past the limit
sample_within : (count : ℤ) → IsWithin 12000 count
    → IsWithin 10000000000000 (sample_of (pos 32500000000) (pos 0) count)
sample_within (pos n) small = rw (sample_is (pos n)) (omega (arith, ints, small), omega (arith, ints, small))
sample_within (negsuc n) small =
    rw (sample_is (negsuc n)) (omega (arith, ints, small), omega (arith, ints, small))

pub samples_within : (seed channel low high : ℕ)
    → All (IsWithin 10000000000000) (samples_between (disturbances seed) channel low high)
unfolding samples_between
samples_within seed channel low high =
    let i : ℕ → ℕ → ℕ = λ k d. get_or (numbers_from low (high - low)) k d in
    All-map (IsWithin 10000000000000) (sample_at (disturbances seed) channel) (numbers_from low (high - low))
    (λ k d below. sample_within (count_at (disturbances seed) channel (i k d))
    (counts_within seed channel (i k d)))

-- nothing of a sample is lost in 64 bits
abs_within : (z : ℤ) → IsWithin 12000 z → unsigned_abs z ≤ 12000
abs_within (pos n) small = omega (arith, ints, small)
abs_within (negsuc n) small = omega (arith, ints, small)

pub sample_kept : (z : ℤ) → IsWithin 12000 z
    → to_z w64 (of_z w64 (pos 32500 *ℤ to_z w64 (of_z w64 (to_z w16 (of_z w16 z))))) ≡ pos 32500 *ℤ z
sample_kept z small =
    let count : to_z w16 (of_z w16 z) ≡ z =
    to_z-of_z w16 z (fits_signed_from_abs w16 z (omega (arith, abs_within z small))) in
    let wide : to_z w64 (of_z w64 z) ≡ z =
    to_z-of_z w64 z (fits_signed_from_abs w64 z (omega (arith, abs_within z small))) in
    ap (λ x. to_z w64 (of_z w64 (pos 32500 *ℤ to_z w64 (of_z w64 x)))) count
    ∙ ap (λ x. to_z w64 (of_z w64 (pos 32500 *ℤ x))) wide
    ∙ to_z-of_z w64 (pos 32500 *ℤ z) (fits_signed_from_abs w64 (pos 32500 *ℤ z)
    (omega (arith, unsigned_abs-mul (pos 32500) z, abs_within z small)))
