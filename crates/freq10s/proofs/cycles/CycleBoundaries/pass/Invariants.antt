use Rattle.std.proofs.Common.{◌≡◌, ◌+◌, ◌<◌, ◌≤◌, length, All, IfSome}
use Rattle.freq10s.specs.Cycles.{boundaries_from, cycles_between, cycles_more}
use Rattle.freq10s.specs.Frequency.{boundaries_within}
use Rattle.pq_words.specs.declared.limits.TheConstants.{MOST_SAMPLES}
use Rattle.zero_cross.specs.Boundary.{AreBoundaries}
use Rattle.freq10s.proofs.cycles.CycleBoundaries.pass.Given as goal

-- the cycles so far and the boundaries that are left are all, and the cycles lie before those
abbrev pub invariant-loop-boundary : goal.invariant-loop-boundary
invariant-loop-boundary l = record {
  value : cycles_more l.cycles (boundaries_within l.self l.low l.high)
      ≡ cycles_between (boundaries_within l.fn.self l.low l.high);
  left : boundaries_from l.high l.self ≡ boundaries_from l.high l.fn.self;
  boundaries : AreBoundaries l.self MOST_SAMPLES;
  rising : IfSome l.cycles (λ c. c.first + c.count ≤ c.last);
  within : IfSome l.cycles (λ c. c.last < MOST_SAMPLES);
  before : IfSome l.cycles (λ c. All (λ k. c.last < k) l.self);
}

abbrev pub decreases-loop-boundary : goal.decreases-loop-boundary
decreases-loop-boundary l = length l.self
