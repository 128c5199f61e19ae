use Rattle.std.proofs.Common.{◌≡◌}
use Rattle.comtrade_dat.proofs.decoded.make_room.Given as goal

-- the samples stay
abbrev pub invariant-loop-channel : goal.invariant-loop-channel
invariant-loop-channel l = l.channels ≡ l.fn.channels
