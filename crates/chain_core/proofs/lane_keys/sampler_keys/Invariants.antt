use Rattle.std.proofs.Common.{◌≡◌, map, take}
use Rattle.lanes.specs.Lane.{lane_key, value_of}
use Rattle.chain_core.proofs.lane_keys.sampler_keys.Given as goal

-- the keys over the runs so far
abbrev pub invariant-loop-run : goal.invariant-loop-run
invariant-loop-run l = l.keys.items ≡ map lane_key (map (value_of l.recording l.position)
    (take l.run-index l.runs))
