use Rattle.std.proofs.Common.{◌+◌, ◌-◌, ◌==◌, ◌∷◌, ap, sym, ◌∙◌, arith, length, take, drop}
use Rattle.std.proofs.lemmas.List.{length-drop, take_all}
use Rattle.pq_base.proofs.CutLemmas.{first_part, whole_part}
use Rattle.pq_words.specs.Text.{parted_at}
use Rattle.command_words.proofs.channels.first_part.Goals as goal

-- a comma was found
pub returns-in-Some-clause-value : goal.returns-in-Some-clause-value
returns-in-Some-clause-value c =
    let text = c.args.text.now in
    let at = c.in-Some.at in
    first_part (λ b. b == 44) text at (sym c.in-Some.ensures.value)
    ∙ ap (λ rest. take at text ∷ parted_at 44 rest)
    (sym (take_all (length text - (at + 1)) (drop (at + 1) text)
    (omega (arith, length-drop (at + 1) text))))

-- none was found
pub returns-in-None-clause-none : goal.returns-in-None-clause-none
returns-in-None-clause-none c = whole_part (λ b. b == 44) c.args.text.now (sym c.in-None.ensures.value)
