use Rattle.std.proofs.Common.{◌≡◌, Ok}
use Rattle.comtrade_dat.specs.Run.{judged_run}
use Rattle.comtrade_dat.specs.Samples.{first_fault}
use Rattle.comtrade_dat.proofs.judging.judge_records.Given as goal

-- the records so far are good
abbrev pub invariant-loop-index : goal.invariant-loop-index
invariant-loop-index l =
    first_fault (judged_run l.size l.positions l.start l.run l.index) ≡ Ok (tt {0})
