-- The subject: laws of generated recordings; each is the contract of a call of its own.
use Rattle.std.specs.Prelude.{◌≡◌, ℕ, ◌+◌, ◌*◌, ◌<◌, ◌≤◌, length}
use Rattle.pq_generate.specs.GeneratedRecording.{count_at, dat_text, disturbance_of, disturbances}
use Rattle.pq_words.specs.Magnitude.{IsWithin}

-- the disturbance of an index lies in the 3000 cycles of its index, and neither at their begin nor at their
-- end
pub record DisturbancesLieWithin : Type 0 where
  pub begin : (seed index : ℕ) → 3000 * index + 100 ≤ (disturbance_of seed index).first_cycle
  pub end : (seed index : ℕ) →
      (disturbance_of seed index).first_cycle + (disturbance_of seed index).cycles ≤ 3000 * index + 2149

-- a disturbance has ended where a later one begins
abbrev pub DisturbancesLieApart : Type 0
DisturbancesLieApart = (seed index later : ℕ) → index < later →
    (disturbance_of seed index).first_cycle + (disturbance_of seed index).cycles
    ≤ (disturbance_of seed later).first_cycle

-- counts are within six fifths of the sine's greatest, so none is -32768, which would say that there is none
abbrev pub CountsLieWithin : Type 0
CountsLieWithin = (seed channel i : ℕ) → IsWithin 12000 (count_at (disturbances seed) channel i)

-- a dat has 14 bytes for each sample
abbrev pub DatsAreWhole : Type 0
DatsAreWhole = (seed : ℕ) → length (dat_text seed) ≡ 14 * 722400
