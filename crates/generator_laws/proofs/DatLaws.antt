-- The records of the dat are good, and their samples are those of the generated recording.
use Rattle.std.proofs.Common.{◌≡◌, ◌≢◌, ℕ, zero, suc, ◌+◌, ◌-◌, ◌<◌, ◌≤◌, List, [], ◌∷◌, length, map, get_or, ℤ, pos, negsuc, unsigned_abs, refl, sym, ◌∙◌, ap, arith, FitsSigned, None, Ok}
use Rattle.std.specs.Int.{w16}
use Rattle.std.specs.List.{All, flat_map}
use Rattle.std.proofs.lemmas.Int.{fits_signed_from_abs, ints}
use Rattle.std.proofs.lemmas.List.{get_or-map, length-map}
use Rattle.std.proofs.lemmas.List.Elements.{All-map}
use Rattle.std.proofs.lemmas.List.Folds.{flat_map-map}
use Rattle.std.proofs.lemmas.Simd.{map-map}
use Rattle.comtrade_cfg.specs.Selecting.{coefficients_at}
use Rattle.comtrade_cfg.specs.declared.voltage.Coefficients.{Coefficients}
use Rattle.comtrade_dat.proofs.DatLemmas.{dats_read_back}
use Rattle.comtrade_dat.specs.BinaryRecord.{RecordFields, bytes_of}
use Rattle.comtrade_dat.specs.ReadBack.{AreGood, HasShape, IsNumberedAfter, count_of, dat_of, recording_from, samples_from}
use Rattle.comtrade_dat.specs.Samples.{samples_of}
use Rattle.comtrade_dat.specs.declared.limits.TheConstants.{MISSING_COUNT}
use Rattle.generator_laws.proofs.CfgLaws.{cfg_selected, chosen, coefficients, configuration, first_coefficients, second_coefficients, third_coefficients}
use Rattle.pq_base.specs.Sample.{sample_of}
use Rattle.pq_generate.proofs.CountLemmas.{counts_within}
use Rattle.pq_generate.specs.GeneratedRecording.{count_at, dat_text, disturbances, on_channels, record_at, records_between}
use Rattle.pq_generate.specs.MeasuredRecording.{generated_recording, samples_between}
use Rattle.pq_words.proofs.StepLaws.{length_numbers}
use Rattle.pq_words.specs.Magnitude.{IsWithin}
use Rattle.pq_words.specs.Steps.{numbers_from}

-- ---- lists

numbers_at : (low n k d : ℕ) → k < n → get_or (numbers_from low n) k d ≡ low + k
unfolding numbers_from
numbers_at low zero k d below = absurd (omega (arith, below))
numbers_at low (suc n) zero d below = omega arith
numbers_at low (suc n) (suc k) d below = numbers_at (low + 1) n k d (omega (arith, below)) ∙ omega arith

-- what holds of three holds of the list of them
all_three : {X : Type 0} (P : X → Type 0) (x y z : X) → P x → P y → P z → All P (x ∷ y ∷ z ∷ [])
all_three P x y z p q r zero d below = p
all_three P x y z p q r (suc zero) d below = q
all_three P x y z p q r (suc (suc zero)) d below = r
all_three P x y z p q r (suc (suc (suc k))) d below = absurd (omega (arith, below))

-- ---- records

-- what the record of a sample says
abbrev fields_at : ℕ → ℕ → RecordFields
fields_at seed i = record {
  number = i + 1;
  stamp = 0;
  counts = on_channels (λ channel. count_at (disturbances seed) channel i);
  states = [];
}

abbrev fields_below : ℕ → ℕ → List RecordFields
fields_below seed n = map (fields_at seed) (numbers_from 0 n)

record_is : (seed : ℕ) (i : ℕ) → record_at (disturbances seed) i ≡ bytes_of (fields_at seed i)
unfolding record_at
record_is seed i = refl

-- a dat is the bytes of what its records say
dat_is : (seed : ℕ) (n : ℕ) → records_between (disturbances seed) 0 n ≡ dat_of (fields_below seed n)
unfolding records_between
dat_is seed n = let whole : n - 0 ≡ n = omega arith in
    (λ t. flat_map (λ i. record_is seed i t) (numbers_from 0 (whole t)))
    ∙ sym (flat_map-map bytes_of (fields_at seed) (numbers_from 0 n))

length_fields : (seed : ℕ) (n : ℕ) → length (fields_below seed n) ≡ n
length_fields seed n = length-map (numbers_from 0 n) (fields_at seed) ∙ length_numbers 0 n

-- the record at an index
fields_are : (seed : ℕ) (n k : ℕ) (none : RecordFields) → k < n →
    get_or (fields_below seed n) k none ≡ fields_at seed k
fields_are seed n k none below =
    get_or-map (fields_at seed) (numbers_from 0 n) k 0 none (omega (arith, length_numbers 0 n, below))
    ∙ ap (fields_at seed) (numbers_at 0 n k 0 below ∙ omega arith)

-- ---- they are good

abs_within : (z : ℤ) → IsWithin 12000 z → unsigned_abs z ≤ 12000
abs_within (pos n) small = omega (arith, ints, small)
abs_within (negsuc n) small = omega (arith, ints, small)

fits : (seed channel i : ℕ) → FitsSigned w16 (count_at (disturbances seed) channel i)
fits seed channel i = fits_signed_from_abs w16 (count_at (disturbances seed) channel i)
    (omega (arith, abs_within (count_at (disturbances seed) channel i) (counts_within seed channel i)))

there : (z : ℤ) → IsWithin 12000 z → z ≢ MISSING_COUNT
there (pos n) small e = absurd cc
there (negsuc n) small e = omega (arith, ints, small, e)

-- each has its place in 8 + 6 bytes
shape : (seed i : ℕ) → i < 722400 → HasShape 3 0 (fields_at seed i)
shape seed i below = record {
  number = omega (arith, below);
  stamp = omega arith;
  signed = all_three (FitsSigned w16) _ _ _ (fits seed 1 i) (fits seed 2 i) (fits seed 3 i);
  unsigned = λ k d none. absurd (omega (arith, none));
  as_many_counts = refl;
  as_many_words = refl;
}

place_below : (n k d : ℕ) → k < length (numbers_from 0 n) → get_or (numbers_from 0 n) k d < n
place_below n k d below = omega (
  arith,
  numbers_at 0 n k d (omega (arith, below, length_numbers 0 n)),
  below,
  length_numbers 0 n,
)

shapes : (seed : ℕ) → All (HasShape 3 0) (fields_below seed 722400)
shapes seed = All-map (HasShape 3 0) (fields_at seed) (numbers_from 0 722400)
    (λ k d below. shape seed (get_or (numbers_from 0 722400) k d) (place_below 722400 k d below))

counted : (seed i : ℕ) →
    All (λ position. count_of (fields_at seed i) position ≢ MISSING_COUNT) (0 ∷ 1 ∷ 2 ∷ [])
counted seed i = all_three (λ position. count_of (fields_at seed i) position ≢ MISSING_COUNT)
    0 1 2 (there (count_at (disturbances seed) 1 i) (counts_within seed 1 i))
    (there (count_at (disturbances seed) 2 i) (counts_within seed 2 i))
    (there (count_at (disturbances seed) 3 i) (counts_within seed 3 i))

numbered : (seed : ℕ) (n index : ℕ) (none : RecordFields) → n ≤ 722400
    → index + 1 < length (fields_below seed n)
    → IsNumberedAfter (get_or (fields_below seed n) index none)
    (get_or (fields_below seed n) (index + 1) none)
numbered seed n index none small below =
    let within : index + 1 < n = omega (arith, below, length_fields seed n) in
    rw (fields_are seed n index none (omega (arith, within)))
    (rw (fields_are seed n (index + 1) none within) (omega (arith, within, small)))

good : (seed : ℕ) → AreGood (0 ∷ 1 ∷ 2 ∷ []) (fields_below seed 722400)
good seed = record {
  numbered = λ index none below. numbered seed 722400 index none (omega arith) below;
  counted = All-map
      (λ fields. All (λ position. count_of fields position ≢ MISSING_COUNT) (0 ∷ 1 ∷ 2 ∷ []))
      (fields_at seed) (numbers_from 0 722400)
      (λ k d below. counted seed (get_or (numbers_from 0 722400) k d));
}

-- ---- their samples

samples_are : (seed : ℕ) (k : Coefficients) (position channel n : ℕ)
    → k ≡ coefficients
    → ((i : ℕ) → count_of (fields_at seed i) position ≡ count_at (disturbances seed) channel i)
    → samples_from k position (fields_below seed n) ≡ samples_between (disturbances seed) channel 0 n
unfolding samples_between
samples_are seed k position channel n same count =
    let whole : n ≡ n - 0 = omega arith in
    ap (λ known. samples_from known position (fields_below seed n)) same
    ∙ map-map (λ fields. sample_of coefficients.a coefficients.b (count_of fields position)) (fields_at seed)
    (numbers_from 0 n)
    ∙ (λ t. map (λ i. sample_of (pos 32500000000) (pos 0) (count i t)) (numbers_from 0 (whole t)))

recording_is : (seed : ℕ) →
    recording_from configuration chosen (fields_below seed 722400) ≡ generated_recording seed
recording_is seed =
    let first = samples_are seed (coefficients_at configuration 0) 0 1 722400 first_coefficients
    (λ i. refl) in
    let second = samples_are seed (coefficients_at configuration 1) 1 2 722400 second_coefficients
    (λ i. refl) in
    let third = samples_are seed (coefficients_at configuration 2) 2 3 722400 third_coefficients
    (λ i. refl) in
    λ t. record {
      t0 = pos 1709294399000000000;
      rate = 1200000000;
      lf = 50;
      numbers = 1 ∷ 2 ∷ 3 ∷ [];
      reference = 0;
      samples = first t ∷ second t ∷ third t ∷ [];
    }

-- the dat of each seed is read as its recording
pub dat_read : (seed : ℕ) → samples_of configuration chosen (dat_text seed) ≡ Ok (generated_recording seed)
dat_read seed =
    ap (samples_of configuration chosen) (dat_is seed 722400)
    ∙ dats_read_back configuration chosen (fields_below seed 722400) (None, None, cfg_selected) (shapes seed)
    (length_fields seed 722400) (good seed)
    ∙ ap (λ r. Ok r) (recording_is seed)
