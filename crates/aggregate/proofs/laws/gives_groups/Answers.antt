use Rattle.aggregate.proofs.WholeListLaws.{gives_groups}
use Rattle.aggregate.proofs.laws.gives_groups.Goals as goal

pub returns : goal.returns
returns c = gives_groups
