use Rattle.std.proofs.Common.{◌∙◌, sym, inr}
use Rattle.comtrade_cfg.proofs.ValueLemmas.{judged_more, judged_stop}
use Rattle.comtrade_cfg.proofs.selection.judge_values.Goals as goal

-- a channel past the limit
pub returns-then-is_past_limit : goal.returns-then-is_past_limit
returns-then-is_past_limit c =
    inr (sym c.loop-position.invariant ∙ judged_stop c.args.channels.now c.args.chosen.now
    c.loop-position.position c.index-channels-position.result
    c.loop-position-test.true c.index-channels-position.is
    (sym c.is_past_limit.ensures ∙ c.if-is_past_limit.true))

-- a channel that is not
pub loop-position-preserved : goal.loop-position-preserved
loop-position-preserved c =
    sym (judged_more c.args.channels.now c.args.chosen.now c.loop-position.position
    c.index-channels-position.result
    c.loop-position-test.true c.index-channels-position.is
    (sym c.is_past_limit.ensures ∙ c.if-is_past_limit.false)) ∙ c.loop-position.invariant
