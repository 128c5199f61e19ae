use Rattle.std.proofs.Common.{◌≡◌, ◌+◌, ◌++◌, take}
use Rattle.comtrade_cfg.specs.Canonical.{lines_text, status_rows}
use Rattle.comtrade_cfg.proofs.print_channels.push_status.Given as goal

-- the lines so far, and the position of the next
abbrev pub invariant-loop-channel : goal.invariant-loop-channel
invariant-loop-channel l = record {
  lines : l.text.items ≡ l.initial.text.items ++ lines_text (status_rows (take l.channel-index l.channels));
  next : l.position ≡ l.channel-index + 1;
}
