use Rattle.zero_cross.specs.Boundary.{crosses_at}
use Rattle.pq_words.specs.First.{Nowhere}
use Rattle.zero_cross.proofs.boundary.crossing.Given as goal

-- no place before the one at hand crosses
abbrev pub invariant-loop-place : goal.invariant-loop-place
invariant-loop-place l = Nowhere (crosses_at l.samples l.rising) l.low l.place
