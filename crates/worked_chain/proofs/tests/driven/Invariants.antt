use Rattle.worked_chain.specs.Drivers.{AreDriversOf}
use Rattle.worked_chain.proofs.tests.driven.Given as goal

-- the driver stays that of the chain
abbrev pub invariant-loop-line : goal.invariant-loop-line
invariant-loop-line l = AreDriversOf l.chain l.driver
