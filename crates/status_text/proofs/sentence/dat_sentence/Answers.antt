use Rattle.std.proofs.Common.{◌∙◌, [], sym, ap}
use Rattle.std.specs.Prelude.{codes}
use Rattle.status_text.specs.StatusText.{dat_fault_text, twice_numbered}
use Rattle.status_text.proofs.sentence.dat_sentence.Goals as goal

pub returns-in-Number : goal.returns-in-Number
returns-in-Number c =
    c.twice_numbered.ensures
    ∙ (ap (λ n. twice_numbered (codes "dat record ") c.in-Number.at (codes ": sample number ") n [])
    c.from.ensures ∙ ap dat_fault_text (sym c.in-Number.is))
