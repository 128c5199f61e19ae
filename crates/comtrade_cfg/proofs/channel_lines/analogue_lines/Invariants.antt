use Rattle.std.proofs.Common.{◌≡◌, ◌-◌, ◌+◌}
use Rattle.cfg_fields.specs.Cursor.{cursor_view}
use Rattle.comtrade_cfg.specs.CfgText.{analogue_line, channel_lines}
use Rattle.comtrade_cfg.proofs.ChannelLemmas.{with_front}
use Rattle.comtrade_cfg.proofs.channel_lines.analogue_lines.Given as goal

abbrev pub invariant-loop-index : goal.invariant-loop-index
invariant-loop-index l = with_front l.channels.items
    (channel_lines analogue_line (l.index + 1) (l.count - l.index) (cursor_view l.cursor))
    ≡ channel_lines analogue_line 1 l.count (cursor_view l.initial.cursor)
