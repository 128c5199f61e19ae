use Rattle.std.proofs.Common.{◌==◌, position, unwrap_or, ap, ◌∙◌}
use Rattle.chain_core.proofs.least_word.least_lane.Goals as goal

-- the first lane that has the word found is the first that has the least
pub returns-clause-value : goal.returns-clause-value
returns-clause-value c =
    c.first_lane.ensures.value
    ∙ ap (λ l. unwrap_or (position (λ w. w == l) c.args.words.now) 0) c.least.ensures
