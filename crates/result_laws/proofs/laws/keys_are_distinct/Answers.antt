use Rattle.result_laws.proofs.KeyLaws.{keys_distinct}
use Rattle.result_laws.proofs.laws.keys_are_distinct.Goals as goal

pub returns : goal.returns
returns c = keys_distinct
