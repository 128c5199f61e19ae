use Rattle.std.proofs.Common.{length, true, ◌∙◌, ap, subst, sym}
use Rattle.zero_cross.specs.AllBoundaries.{Alternate}
use Rattle.zero_cross.specs.Boundary.{AreBoundaries, cycle_boundaries, rising_places}
use Rattle.zero_cross.proofs.BoundaryLaws.{boundaries_alternate, cycles_lie}
use Rattle.freq10s.proofs.CycleLaws.{left_of_cycles}
use Rattle.freq10s.proofs.cycles.CycleBoundaries.new.Goals as goal

-- boundaries alternate, from a rising one on
pub next_rising-upcoming-requires : goal.next_rising-upcoming-requires
next_rising-upcoming-requires c =
    subst (Alternate true) (sym c.new-boundaries.ensures.value)
    (boundaries_alternate c.args.samples.now c.args.rule)

-- the rising ones of all
pub returns-clause-value : goal.returns-clause-value
unfolding cycle_boundaries
returns-clause-value c =
    left_of_cycles c.next_rising-upcoming.result c.next_rising-upcoming.new.boundaries c.new-boundaries.result
    c.next_rising-upcoming.ensures.value
    ∙ ap rising_places c.new-boundaries.ensures.value

-- they rise, within the signal
pub returns-clause-within : goal.returns-clause-within
returns-clause-within c =
    subst (λ places. AreBoundaries places (length c.args.samples.now)) (sym (returns-clause-value c))
    (cycles_lie c.args.samples.now c.args.rule c.requires)
