-- The subject: what is measured of a recording, as the core knows it. All of it is profile.
use Rattle.std.specs.Prelude.{ℕ, List, map}
use Rattle.event_detect.specs.declared.limits.Limits.{Limits}
use Rattle.chain_core.specs.Core.{Measured}
use Rattle.lanes.specs.Lane.{lane_count, lane_items, lane_key}
use Rattle.pq_base.specs.Recorded.{Recorded, sample_count}
use Rattle.pq_sequence.specs.SequentialResult.{sequential}
use Rattle.pq_words.specs.Steps.{numbers_below}

-- the keys of the items of a lane
abbrev pub keys_at : Recorded → ℕ → List ℕ
keys_at r lane = map lane_key (lane_items r lane)

-- the keys of all lanes
abbrev pub recorded_keys : Recorded → List (List ℕ)
recorded_keys r = map (keys_at r) (numbers_below (lane_count r))

-- the keys of each lane, the sequential result under the limits, and the number of samples
abbrev pub measured_of : Recorded → Limits → Measured
measured_of r limits = record {
  keys = recorded_keys r;
  items = sequential r limits;
  samples = sample_count r;
}
