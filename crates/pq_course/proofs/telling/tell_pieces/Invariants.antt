use Rattle.std.proofs.Common.{take}
use Rattle.std.specs.List.{flat_map}
use Rattle.pq_course.proofs.PartLemmas.{IsSoFar}
use Rattle.pq_course.proofs.telling.tell_pieces.Given as goal

-- the pieces so far were taken
abbrev pub invariant-loop-piece : goal.invariant-loop-piece
invariant-loop-piece g l =
    IsSoFar g.E.Sink l.initial.err l.err (flat_map (λ p. p.now) (take l.piece-index l.pieces))
