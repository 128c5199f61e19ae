-- What contracts see of a running sum, over the intervals that were added to it.
use Rattle.std.specs.Prelude.{◌≡◌, ℕ, ◌*◌, ◌^◌, ◌<◌, ◌≤◌, Bool, List, [], ◌∷◌, ◌++◌, length, sum_by, ℤ, Option, All, slice_index, ◌+◌, ◌/◌, map, nat_lt, if◌then◌else◌}
use Rattle.std.specs.List.{list_any}
use Rattle.aggregate.specs.declared.group.Group.{Group}
use Rattle.aggregate.specs.Aggregation.{Part, first_start, group_of, last_end}
use Rattle.fixed_rms.specs.Root.{isqrt, square}
use Rattle.pq_words.specs.declared.limits.TheConstants.{MOST_MICROVOLTS, MOST_SAMPLES}
use Rattle.pq_words.specs.Steps.{numbers_below}
use Rattle.ten_twelve.specs.declared.span.Span.{Span}

-- a running sum: the start of the first interval, the end of the last, how many there are, whether one is
-- flagged, and the sum of the squares of the values by channel
pub record SumView : Type 0 where
  pub start : ℕ
  pub end : ℕ
  pub count : ℕ
  pub flagged : Bool
  pub squares : List ℕ

-- the sum of the squares of a channel's values
abbrev pub squares_of : List Part → ℕ → ℕ
squares_of parts channel = sum_by (λ p. square (slice_index p.values channel)) parts

-- the sum is that of these intervals, in their order
pub record HasSummed (s : SumView) (parts : List Part) : Type 0 where
  pub first : s.start ≡ first_start parts
  pub last : s.end ≡ last_end parts
  pub number : s.count ≡ length parts
  pub flag : s.flagged ≡ list_any (λ p. p.flagged) parts
  pub total : (channel : ℕ) → channel < 16 → slice_index s.squares channel ≡ squares_of parts channel

-- an interval of all channels, as it is handed in
abbrev pub part_of : Span → List ℕ → Bool → Part
part_of span values flagged =
    record { start = span.start; end = span.end; values = values; flagged = flagged }

-- to each channel's sum of squares that of its value is added
abbrev pub AddsSquares : List ℕ → List ℕ → List ℕ → Type 0
AddsSquares old new values =
    (channel : ℕ) → slice_index new channel ≡ slice_index old channel + square (slice_index values channel)

-- the root of the mean of each channel's sum of so many squares, and 0 past the channels
abbrev pub mean_roots : List ℕ → ℕ → ℕ → List ℕ
mean_roots squares count channels =
    map (λ k. if nat_lt k channels then isqrt (slice_index squares k / count) else 0) (numbers_below 16)

-- whatever intervals the sum was of, it is now that of one more
abbrev pub Adds : SumView → SumView → Part → Type 0
Adds old new part = (parts : List Part) → HasSummed old parts → HasSummed new (parts ++ part ∷ [])

-- whatever intervals the sum is of, the group is the one that contains them
abbrev pub IsGroupOf : SumView → Option ℤ → ℕ → Group → Type 0
IsGroupOf s tick channels g = (parts : List Part) → HasSummed s parts → g ≡ group_of tick channels parts

-- a sum stays in range: it has at most so many intervals, and no value was greater than a sample may be
pub record IsSum (count : ℕ) (squares : List ℕ) : Type 0 where
  pub short : count ≤ MOST_SAMPLES
  pub quiet : All (λ total. total ≤ count * MOST_MICROVOLTS ^ 2) squares
