use Rattle.std.proofs.Common.{◌+◌, ◌-◌, ◌==◌, ◌∷◌, ap, sym, ◌∙◌, arith, length, take, drop}
use Rattle.std.proofs.lemmas.List.{length-drop, take_all}
use Rattle.std.specs.List.{slice_split}
use Rattle.pq_base.proofs.CutLemmas.{first_part, whole_part}
use Rattle.pq_base.proofs.decimal.cut_point.Goals as goal

pub returns-in-Some : goal.returns-in-Some
returns-in-Some c =
    let text = c.args.text.now in
    let at = c.in-Some.at in
    first_part (λ c. c == 46) text at (sym c.in-Some.ensures)
    ∙ ap (λ rest. take at text ∷ slice_split (λ c. c == 46) rest)
    (sym (take_all (length text - (at + 1)) (drop (at + 1) text)
    (omega (arith, length-drop (at + 1) text))))

pub returns-in-None : goal.returns-in-None
returns-in-None c = whole_part (λ c. c == 46) c.args.text.now (sym c.in-None.ensures)
