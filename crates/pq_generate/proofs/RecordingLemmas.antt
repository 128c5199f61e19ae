-- What holds of the recording as it is measured.
use Rattle.std.proofs.Common.{◌≡◌, ℕ, zero, suc, ◌<◌, ◌≤◌, List, [], ◌∷◌, length, ℤ, pos, refl, sym, ◌∙◌, ap₂, arith, inl, Vec, Global}
use Rattle.std.proofs.lemmas.Int.{ints}
use Rattle.std.specs.List.{All}
use Rattle.std.specs.List.Sorted.{IsStrictlyIncreasing}
use Rattle.pq_base.specs.Recorded.{IsRecording, recorded_of, sample_count, samples_at}
use Rattle.pq_generate.proofs.SampleLemmas.{length_samples, samples_within}
use Rattle.pq_generate.specs.GeneratedRecording.{disturbances}
use Rattle.pq_generate.specs.MeasuredRecording.{generated_recording, samples_between}
use Rattle.pq_words.specs.Magnitude.{IsWithin}

-- it is made of the samples of the three channels
pub same_recording : (seed : ℕ) (numbers : List ℕ) (given : List (Vec ℤ Global))
    (first second third : Vec ℤ Global) → numbers ≡ 1 ∷ 2 ∷ 3 ∷ [] → given ≡ first ∷ second ∷ third ∷ []
    → first.items ≡ samples_between (disturbances seed) 1 0 722400
    → second.items ≡ samples_between (disturbances seed) 2 0 722400
    → third.items ≡ samples_between (disturbances seed) 3 0 722400
    → recorded_of (pos 1709294399000000000) 1200000000 50 numbers 0 given ≡ generated_recording seed
same_recording seed numbers given first second third n g a b c =
    ap₂ (λ ns gs. recorded_of (pos 1709294399000000000) 1200000000 50 ns 0 gs) n g
    ∙ (λ t. record {
      t0 = pos 1709294399000000000;
      rate = 1200000000;
      lf = 50;
      numbers = 1 ∷ 2 ∷ 3 ∷ [];
      reference = 0;
      samples = a t ∷ b t ∷ c t ∷ [];
    })

rising : IsStrictlyIncreasing (1 ∷ 2 ∷ 3 ∷ [])
rising zero below = omega arith
rising (suc zero) below = omega arith
rising (suc (suc k)) below = absurd (omega (arith, below))

numbered : All (λ n. (0 < n) × (n ≤ 999)) (1 ∷ 2 ∷ 3 ∷ [])
numbered zero d below = (omega arith, omega arith)
numbered (suc zero) d below = (omega arith, omega arith)
numbered (suc (suc zero)) d below = (omega arith, omega arith)
numbered (suc (suc (suc k))) d below = absurd (omega (arith, below))

-- as many samples on each channel
count_is : (seed channel : ℕ) → length (samples_between (disturbances seed) channel 0 722400) ≡ 722400
count_is seed channel = length_samples (disturbances seed) channel 0 722400

even : (seed k : ℕ) → k < 3
    → length (samples_at (generated_recording seed) k) ≡ sample_count (generated_recording seed)
even seed zero below = refl
even seed (suc zero) below = count_is seed 2 ∙ sym (count_is seed 1)
even seed (suc (suc zero)) below = count_is seed 3 ∙ sym (count_is seed 1)
even seed (suc (suc (suc k))) below = absurd (omega (arith, below))

quiet : (seed k : ℕ) → k < 3 → All (IsWithin 10000000000000) (samples_at (generated_recording seed) k)
quiet seed zero below = samples_within seed 1 0 722400
quiet seed (suc zero) below = samples_within seed 2 0 722400
quiet seed (suc (suc zero)) below = samples_within seed 3 0 722400
quiet seed (suc (suc (suc k))) below = absurd (omega (arith, below))

pub is_recording : (seed : ℕ) → IsRecording (generated_recording seed)
is_recording seed = record {
  channels = (omega arith, omega arith);
  rising = rising;
  numbered = numbered;
  paired = refl;
  even = even seed;
  short = omega (arith, count_is seed 1);
  quiet = quiet seed;
  reference = omega arith;
  lf = inl refl;
  rate = (omega arith, omega arith);
  t0 = (omega (arith, ints), omega (arith, ints));
}
