-- The subject: the samples of a channel, in microvolts: how many there may be, and how large (profile).
use Rattle.std.specs.Prelude.{◌≤◌, List, length, ℤ, All}
use Rattle.pq_words.specs.declared.limits.TheConstants.{MOST_SAMPLES, MOST_MICROVOLTS}
use Rattle.pq_words.specs.Magnitude.{IsWithin}

-- at most so many samples, each within so many microvolts
pub record AreSamples (samples : List ℤ) : Type 0 where
  pub short : length samples ≤ MOST_SAMPLES
  pub quiet : All (IsWithin MOST_MICROVOLTS) samples
