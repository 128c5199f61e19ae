use Rattle.pq_sequence.specs.Measured.{AreBelow}
use Rattle.std.proofs.Common.{◌-◌, length}
use Rattle.pq_sequence.proofs.basics.front_from.Given as goal

-- the fronts so far are before the cycle
abbrev pub invariant-loop-next : goal.invariant-loop-next
invariant-loop-next l = AreBelow l.cycle l.fronts l.next

abbrev pub decreases-loop-next : goal.decreases-loop-next
decreases-loop-next l = length l.fronts - l.next
