use Rattle.worked_ledger.specs.Measured.{IsOf}
use Rattle.worked_ledger.proofs.rounds.post_round.Given as goal

-- the ledger stays that of the recording
abbrev pub invariant-loop-index : goal.invariant-loop-index
invariant-loop-index l = IsOf l.ledger l.measured
