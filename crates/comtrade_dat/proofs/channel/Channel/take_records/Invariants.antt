use Rattle.std.proofs.Common.{◌-◌, ◌≤◌}
use Rattle.comtrade_dat.specs.Channel.{HasRead}
use Rattle.comtrade_dat.proofs.channel.Channel.take_records.Given as goal

-- the records so far are taken
abbrev pub invariant-loop-from : goal.invariant-loop-from
invariant-loop-from l = record {
  start : l.start ≤ l.from;
  within : l.from ≤ l.end;
  read : HasRead l.size l.dat l.start l.from l.fn.self l.self;
}

abbrev pub decreases-loop-from : goal.decreases-loop-from
decreases-loop-from l = l.end - l.from
