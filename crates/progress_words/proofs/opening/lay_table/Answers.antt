use Rattle.std.proofs.Common.{rules, arith, ◌≡◌, ◌+◌, List, Option, Some, [], ◌∷◌, ◌∙◌, sym, subst, replicate}
use Rattle.std.proofs.lemmas.Grind.{common_steps}
use Rattle.atomic_table.specs.Table.{opening}
use Rattle.progress_words.specs.PassView.{first_view}
use Rattle.progress_words.specs.Rule.{MeetsRule}
use Rattle.progress_words.proofs.Ends.{starts}
use Rattle.progress_words.proofs.opening.lay_table.Goals as goal

pub new-requires : goal.new-requires
new-requires g c =
    let n = c.args.count in let value = c.of.result.value in
    let words : c.as_slice.result.now ≡ replicate (n + 2) 0 =
    c.as_slice.ensures.value ∙ c.in_ok-words.ensures.items_if_clones_equal (λ y e. e) in
    let slots : c.push.new.self.items ≡ Some value ∷ [] =
    first_of (search rules, grind (arith, common_steps)) in
    let Start : List (Option g.row.V.Denot) → Type 0 = λ xs.
    MeetsRule {V = g.row.V.Denot} {N = g.row.V-Name.Denot} n g.V.Shared.reach g.V.Shared.name value
    (opening c.as_slice.result.now xs (first_view n g.V.Shared.name value)) in
    subst Start (sym slots) (starts n g.V.Shared.reach g.V.Shared.name value c.as_slice.result.now words)
