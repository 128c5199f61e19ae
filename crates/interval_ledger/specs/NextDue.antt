-- What contracts say of the next basic interval and the next reading, by what is posted (profile).
use Rattle.std.specs.Prelude.{◌≡◌, ◌⊎◌, ℕ, ◌<◌, ◌≤◌, List, length, Option, None, Some, IsSome, slice_get, option_and_then}
use Rattle.freq10s.specs.declared.reading.Reading.{Reading}
use Rattle.interval_ledger.specs.declared.channel.SpanValue.{SpanValue}
use Rattle.interval_ledger.specs.declared.next_due.Due.{Due}
use Rattle.interval_ledger.specs.declared.next_due.Due.TheVariants as due
use Rattle.interval_ledger.specs.Channel.{ChannelView}

-- the value at an index of the channel at a position, if it was posted
abbrev pub value_at : List ChannelView → ℕ → ℕ → Option SpanValue
value_at channels k position = option_and_then (λ c. slice_get c.values.items k) (slice_get channels position)

-- each channel has posted its value at an index, the first of them this one
pub record HasAll (channels : List ChannelView) (k : ℕ) (first : SpanValue) : Type 0 where
  pub each : (position : ℕ) → position < length channels → IsSome (value_at channels k position)
  pub is_first : value_at channels k 0 ≡ Some first

-- some channel has not
abbrev pub LacksOne : List ChannelView → ℕ → Type 0
LacksOne channels k = (position : ℕ) × (position < length channels) × (value_at channels k position ≡ None)

-- the basic interval at an index is not posted by each channel, or it ends after a place
abbrev pub BasicIsPast : List ChannelView → ℕ → ℕ → Type 0
BasicIsPast channels k w = LacksOne channels k ⊎ ((v : SpanValue) × HasAll channels k v × (w < v.end))

-- the reading at an index is not posted, or it ends at a place or after it
abbrev pub ReadingIsFrom : List Reading → ℕ → ℕ → Type 0
ReadingIsFrom readings k w =
    (slice_get readings k ≡ None) ⊎ ((x : Reading) × (slice_get readings k ≡ Some x) × (w ≤ x.end))

-- or it ends after it
abbrev pub ReadingIsPast : List Reading → ℕ → ℕ → Type 0
ReadingIsPast readings k w =
    (slice_get readings k ≡ None) ⊎ ((x : Reading) × (slice_get readings k ≡ Some x) × (w < x.end))

-- of the next basic interval and the next reading the one that ends by a place and not after the other
abbrev pub IsNextDue : List ChannelView → ℕ → List Reading → ℕ → ℕ → Option Due → Type 0
IsNextDue channels basics readings merged w None =
    BasicIsPast channels basics w × ReadingIsPast readings merged w
IsNextDue channels basics readings merged w (Some (due.Basic first)) =
    HasAll channels basics first × (first.end ≤ w) × ReadingIsFrom readings merged first.end
IsNextDue channels basics readings merged w (Some (due.Reading reading)) =
    (slice_get readings merged ≡ Some reading) × (reading.end ≤ w) × BasicIsPast channels basics reading.end
