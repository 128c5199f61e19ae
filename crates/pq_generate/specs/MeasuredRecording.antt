-- The subject: the generated recording as it is measured: what its cfg and its dat say, without their texts.
use Rattle.std.specs.Prelude.{ℕ, ◌-◌, List, [], ◌∷◌, map, ℤ, pos}
use Rattle.pq_base.specs.Recorded.{Recorded}
use Rattle.pq_base.specs.Sample.{sample_of}
use Rattle.pq_generate.specs.GeneratedRecording.{count_at, disturbances}
use Rattle.pq_generate.specs.declared.disturbance.Disturbance.{Disturbance}
use Rattle.pq_words.specs.Steps.{numbers_from}

-- the sample of a count: 0.0325 V, in whole picovolts (analogue channel line)
abbrev pub sample_of_count : ℤ → ℤ
sample_of_count count = sample_of (pos 32500000000) (pos 0) count

-- that of a channel at a place
abbrev pub sample_at : List Disturbance → ℕ → ℕ → ℤ
sample_at ds channel i = sample_of_count (count_at ds channel i)

-- its samples from one place to another, which is not included
unfoldable pub samples_between : List Disturbance → ℕ → ℕ → ℕ → List ℤ
samples_between ds channel low high = map (sample_at ds channel) (numbers_from low (high - low))

-- all that it has of a seed
abbrev pub samples_on : ℕ → ℕ → List ℤ
samples_on seed channel = samples_between (disturbances seed) channel 0 722400

-- the recording of a seed: channels 1, 2 and 3, of which the first is the reference, at 1200 samples a second
-- and 50 Hz, from 11:59:59 of 1 March 2024 on
abbrev pub generated_recording : ℕ → Recorded
generated_recording seed = record {
  t0 = pos 1709294399000000000;
  rate = 1200000000;
  lf = 50;
  numbers = 1 ∷ 2 ∷ 3 ∷ [];
  reference = 0;
  samples = map (samples_on seed) (1 ∷ 2 ∷ 3 ∷ []);
}
