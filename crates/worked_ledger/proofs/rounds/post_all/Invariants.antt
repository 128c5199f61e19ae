use Rattle.worked_ledger.specs.Measured.{IsOf}
use Rattle.worked_ledger.proofs.rounds.post_all.Given as goal

-- the ledger stays that of the recording
abbrev pub invariant-loop : goal.invariant-loop
invariant-loop l = IsOf l.ledger l.measured
