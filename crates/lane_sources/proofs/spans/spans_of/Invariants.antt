use Rattle.std.proofs.Common.{◌≡◌, map, take}
use Rattle.pq_sequence.specs.BasicInterval.{basic_span}
use Rattle.lane_sources.proofs.spans.spans_of.Given as goal

-- the spans of the runs so far
abbrev pub invariant-loop-run : goal.invariant-loop-run
invariant-loop-run l = l.spans.items ≡ map (basic_span l.boundaries) (take l.run-index l.runs)
