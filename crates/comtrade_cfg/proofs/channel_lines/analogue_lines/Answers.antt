use Rattle.std.proofs.lemmas.Result.{err_from_is_err_and}
use Rattle.cfg_fields.specs.Cursor.{cursor_view}
use Rattle.comtrade_cfg.specs.CfgText.{analogue_line, channel_lines}
use Rattle.comtrade_cfg.proofs.ChannelLemmas.{goes_on, ends, is_done}
use Rattle.comtrade_cfg.proofs.channel_lines.analogue_lines.Goals as goal

-- a line is at fault
pub returns-in_err-channel : goal.returns-in_err-channel
returns-in_err-channel c =
    let p = err_from_is_err_and c.from_residual-in_err-channel.result c.from_residual-in_err-channel.ensures.1
    in
    rw (p.1, p.2) (ends analogue_line c.loop-index.channels.items c.args.count c.loop-index.index
    (cursor_view c.loop-index.cursor) c.in_err-channel.field-0.0
    (channel_lines analogue_line 1 c.args.count (cursor_view c.args.cursor.now)) c.loop-index-test.true
    c.in_err-channel.ensures c.loop-index.invariant)

-- one line more
pub loop-index-preserved : goal.loop-index-preserved
loop-index-preserved c =
    rw c.in_ok-push.ensures.items (goes_on analogue_line c.loop-index.channels.items c.args.count
    c.loop-index.index (cursor_view c.loop-index.cursor) (cursor_view c.next_analogue.new.cursor)
    c.in_ok-channel.channel (channel_lines analogue_line 1 c.args.count (cursor_view c.args.cursor.now))
    c.loop-index-test.true c.in_ok-channel.ensures c.loop-index.invariant)

-- all lines are read
pub returns : goal.returns
returns c =
    is_done analogue_line c.loop-index.channels.items c.args.count c.loop-index.index
    (cursor_view c.loop-index.cursor)
    (channel_lines analogue_line 1 c.args.count (cursor_view c.args.cursor.now)) c.loop-index-test.false
    c.loop-index.invariant
