use Rattle.std.proofs.Common.{◌<◌, length, arith}
use Rattle.comtrade_cfg.specs.Canonical.{status_fields}
use Rattle.comtrade_cfg.proofs.PrintLemmas.{line_more}
use Rattle.comtrade_cfg.proofs.print_channels.push_status.Goals as goal

-- one line more
pub loop-channel-preserved : goal.loop-channel-preserved
loop-channel-preserved c =
    let inside : c.loop-channel.channel-index < length c.args.channels.now = omega arith in
    record {
      lines = line_more status_fields c.args.channels.now c.loop-channel.channel-index c.loop-channel.position
          c.channel-item.result c.args.text.now.items c.loop-channel.text.items _
          inside c.channel-item.is c.loop-channel.invariant.next c.loop-channel.invariant.lines
          c.in_ok-push_status_line.ensures;
      next = omega (arith, c.loop-channel.invariant.next);
    }
