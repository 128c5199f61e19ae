-- The subject: the least of some words, and the first lane that has it.
use Rattle.std.specs.Prelude.{◌≡◌, ℕ, ◌<◌, ◌≤◌, List, slice_index}

-- of the first n words this is the least, and this lane the first that has it
pub record IsLeast (n : ℕ) (words : List ℕ) (lane word : ℕ) : Type 0 where
  pub within : lane < n
  pub word_of : slice_index words lane ≡ word
  pub least : (k : ℕ) → k < n → word ≤ slice_index words k
  pub first : (k : ℕ) → k < lane → word < slice_index words k
