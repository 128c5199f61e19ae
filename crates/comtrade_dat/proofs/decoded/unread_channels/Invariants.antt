use Rattle.std.proofs.Common.{◌≡◌, map, take}
use Rattle.comtrade_cfg.specs.Configuration.{cfg_view}
use Rattle.comtrade_dat.specs.Channel.{unread}
use Rattle.comtrade_dat.proofs.decoded.unread_channels.Given as goal

-- the channels so far
abbrev pub invariant-loop-position : goal.invariant-loop-position
invariant-loop-position l = l.channels.items
    ≡ map (unread (cfg_view l.cfg)) (take l.position-index l.positions)
