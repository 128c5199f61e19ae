-- The laws are lemmas.
use Rattle.core_laws.proofs.OwnLoadLaws as laws
use Rattle.core_laws.proofs.laws.withheld_by_own_loads.Goals as goal

pub returns-clause-measured : goal.returns-clause-measured
returns-clause-measured c = laws.withheld_by_own_loads

pub returns-clause-recorded : goal.returns-clause-recorded
returns-clause-recorded c = laws.recorded_withheld_by_own_loads
