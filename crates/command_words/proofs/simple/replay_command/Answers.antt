use Rattle.std.proofs.Common.{◌∙◌, ap, codes}
use Rattle.std.proofs.lemmas.Result.{IfOk-weaker}
use Rattle.clap.specs.Words.{with_rule}
use Rattle.command_words.specs.Simple.{positional_rule, replay_app}
use Rattle.command_words.proofs.simple.replay_command.Goals as goal

-- one positional more
pub returns : goal.returns
unfolding replay_app
returns c =
    IfOk-weaker c.with_positional.result _ _ (λ command is.
    is ∙ ap (λ app. with_rule app (positional_rule (codes "schedule"))) c.in_ok-command.ensures)
    c.with_positional.ensures
