use Rattle.std.proofs.Common.{◌≡◌, true}
use Rattle.comtrade_dat.specs.Run.{HaveCounts}
use Rattle.comtrade_dat.proofs.good_records.have_counts.Given as goal

-- the records so far have the count
abbrev pub invariant-loop-index : goal.invariant-loop-index
invariant-loop-index l = l.have ≡ true → HaveCounts l.size l.run l.from l.index l.position
