use Rattle.ten_twelve.proofs.ChopperLaws.{nothing_pending}
use Rattle.ten_twelve.proofs.chopper.Chopper.new.Goals as goal

-- nothing was fed
pub returns-clause-value : goal.returns-clause-value
returns-clause-value c = nothing_pending c.args.length
