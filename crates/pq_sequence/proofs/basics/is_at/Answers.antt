use Rattle.pq_sequence.proofs.WalkLemmas.{told_past, told_there}
use Rattle.pq_sequence.proofs.basics.is_at.Goals as goal

-- the first front that is not before the cycle is there
pub returns-then-next-fronts : goal.returns-then-next-fronts
returns-then-next-fronts c =
    told_there c.args.cycle c.args.fronts.now c.args.next c.requires.rising c.requires.before c.requires.there
    c.if-next-fronts.true

-- no front is left
pub returns-else-next-fronts : goal.returns-else-next-fronts
returns-else-next-fronts c =
    told_past c.args.cycle c.args.fronts.now c.args.next c.requires.rising c.requires.before c.requires.there
    c.if-next-fronts.false
