use Rattle.result_laws.proofs.TwelveLaws as twelve
use Rattle.result_laws.proofs.laws.two_hours_have_twelve.Goals as goal

pub returns : goal.returns
returns c = twelve.two_hours_have_twelve
