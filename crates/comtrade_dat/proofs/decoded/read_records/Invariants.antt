use Rattle.std.proofs.Common.{◌≡◌, ◌-◌, ◌≤◌, map, Ok}
use Rattle.comtrade_dat.specs.Channel.{read_on}
use Rattle.comtrade_dat.specs.Run.{judged_run}
use Rattle.comtrade_dat.specs.Samples.{first_fault}
use Rattle.comtrade_dat.proofs.decoded.read_records.Given as goal

-- the records so far are good, and all channels have read them
abbrev pub invariant-loop-from : goal.invariant-loop-from
invariant-loop-from g l = record {
  within : l.from ≤ l.count;
  good : first_fault (judged_run l.size l.positions l.start l.run l.from) ≡ Ok (tt {0});
  read : l.channels ≡ map (read_on l.size l.run 0 l.from) l.fn.channels;
}

abbrev pub decreases-loop-from : goal.decreases-loop-from
decreases-loop-from g l = l.count - l.from
