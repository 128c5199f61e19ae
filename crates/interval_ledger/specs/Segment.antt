-- What contracts see of segments: the places of the ticks, and where the last basic interval began.
use Rattle.std.specs.Prelude.{ℕ, Bool, true, ◌&&◌, ◌≤◌, nat_lt, nat_le, List, length, take, Option, None, Some, All, IsSomeAnd}
use Rattle.std.specs.List.{list_any}
use Rattle.std.specs.List.Sorted.{IsNonDecreasing}

pub record SegmentsView : Type 0 where
  pub places : List ℕ
  pub before : Option ℕ

-- a basic interval that begins at a place begins a segment: it is the first, or some tick's place lies after
-- the start of the one before it and not after its own (4.5)
abbrev pub is_first_of_segment : List ℕ → Option ℕ → ℕ → Bool
is_first_of_segment places None start = true
is_first_of_segment places (Some before) start = list_any (λ p. nat_lt before p && nat_le p start) places

-- the places do not fall, and the first of them do not lie after the start of the last basic interval
pub record ArePassed (places : List ℕ) (before : Option ℕ) (passed : ℕ) : Type 0 where
  pub rising : IsNonDecreasing places
  pub there : passed ≤ length places
  pub earlier : All (λ p. IsSomeAnd before (λ b. p ≤ b)) (take passed places)
