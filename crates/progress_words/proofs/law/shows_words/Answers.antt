use Rattle.progress_words.proofs.ShownLaws.{shows}
use Rattle.progress_words.proofs.law.shows_words.Goals as goal

pub returns : goal.returns
returns g c = shows g.V.Shared.reach g.V.Shared.name
