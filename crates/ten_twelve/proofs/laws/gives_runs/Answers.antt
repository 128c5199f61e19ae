use Rattle.ten_twelve.proofs.WholeListLaws.{gives_runs}
use Rattle.ten_twelve.proofs.laws.gives_runs.Goals as goal

pub returns : goal.returns
returns c = gives_runs
