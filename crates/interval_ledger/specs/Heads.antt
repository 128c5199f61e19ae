-- What contracts see of the heads of the queues: how many of the items of each lane are merged. All of it is
-- profile.
use Rattle.std.specs.Prelude.{◌≡◌, ℕ, ◌≤◌, List, [], ◌∷◌, length, Some, slice_get}
use Rattle.freq10s.specs.declared.reading.Reading.{Reading}
use Rattle.interval_ledger.specs.Channel.{ChannelView}

-- how many items of each lane are merged, of the sampler and the detector of each channel and, last, of the
-- frequency lane: each basic interval takes one of every sampler
abbrev pub heads_of : List ChannelView → ℕ → ℕ → List ℕ
heads_of [] basics readings = readings ∷ []
heads_of (c ∷ cs) basics readings = basics ∷ c.merged ∷ heads_of cs basics readings

-- of each lane no more than is posted
pub record HeadsArePosted (channels : List ChannelView) (readings : List Reading) (basics merged : ℕ) :
    Type 0 where
  pub samplers : (position : ℕ) (c : ChannelView) → slice_get channels position ≡ Some c →
      basics ≤ length c.values.items
  pub detectors : (position : ℕ) (c : ChannelView) → slice_get channels position ≡ Some c →
      c.merged ≤ length c.windows.items
  pub frequency : merged ≤ length readings
