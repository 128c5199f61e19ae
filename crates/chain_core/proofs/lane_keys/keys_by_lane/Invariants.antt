use Rattle.std.proofs.Common.{◌≡◌, map}
use Rattle.chain_core.specs.MeasuredOf.{keys_at}
use Rattle.pq_words.specs.Steps.{numbers_below}
use Rattle.chain_core.proofs.lane_keys.keys_by_lane.Given as goal

-- the keys of the lanes so far
abbrev pub invariant-loop-lane : goal.invariant-loop-lane
invariant-loop-lane l = l.found.items ≡ map (keys_at l.recording) (numbers_below l.lane)
