-- Nothing is there, so nothing runs.
use Rattle.aggregate.proofs.TwoHourStepLaws.{none_run}
use Rattle.aggregate.proofs.two_hour.TwoHourSum.new.Goals as goal

pub returns-clause-value : goal.returns-clause-value
returns-clause-value c = none_run
