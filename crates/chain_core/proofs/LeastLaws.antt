-- The least of some words is at most each of them.
use Rattle.std.proofs.Common.{◌≡◌, ℕ, zero, suc, ◌<◌, ◌≤◌, min, List, [], ◌∷◌, length, get_or, unwrap_or, arith}
use Rattle.std.specs.List.{fold, reduce}
use Rattle.chain_core.specs.Core.{least}

folded : (first : ℕ) (others : List ℕ) → fold min first others ≤ first
folded first [] = omega arith
folded first (w ∷ others) = let h = folded (min first w) others in omega (arith, h)

folded_at : (first : ℕ) (others : List ℕ) (k : ℕ) → k < length others →
    fold min first others ≤ get_or others k 0
folded_at first [] k h = absurd (omega arith)
folded_at first (w ∷ others) zero h = let low = folded (min first w) others in omega (arith, low)
folded_at first (w ∷ others) (suc k) h = folded_at (min first w) others k (omega arith)

pub least_at : (words : List ℕ) (k : ℕ) → k < length words → least words ≤ get_or words k 0
least_at [] k h = absurd (omega arith)
least_at (w ∷ words) zero h = folded w words
least_at (w ∷ words) (suc k) h = folded_at w words k (omega arith)
