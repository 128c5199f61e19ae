use Rattle.std.proofs.Common.{length, ap, subst, sym}
use Rattle.zero_cross.specs.Boundaries.{boundaries_from}
use Rattle.zero_cross.specs.Boundary.{AreBoundaries, boundaries, boundary_after, places_of}
use Rattle.zero_cross.proofs.BoundaryLaws.{boundaries_lie}
use Rattle.pq_words.specs.Successors.{successors}
use Rattle.zero_cross.proofs.boundaries.Boundaries.new.Goals as goal

-- those from boundary 0 on are all
pub returns-clause-value : goal.returns-clause-value
unfolding boundaries boundaries_from
returns-clause-value c =
    let s = c.args.samples.now in
    ap (successors (boundary_after s c.args.rule) (length s)) c.start-upcoming.ensures.value

-- they rise, within the signal
pub returns-clause-within : goal.returns-clause-within
returns-clause-within c =
    let s = c.args.samples.now in
    subst (λ found. AreBoundaries (places_of found) (length s)) (sym (returns-clause-value c))
    (boundaries_lie s c.args.rule c.requires.rule)
