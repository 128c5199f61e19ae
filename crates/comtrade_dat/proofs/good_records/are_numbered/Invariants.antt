use Rattle.std.proofs.Common.{◌≡◌, true}
use Rattle.comtrade_dat.specs.Run.{AreNumbered, number_before}
use Rattle.comtrade_dat.proofs.good_records.are_numbered.Given as goal

-- the numbers so far follow, and the last of them is known
abbrev pub invariant-loop-index : goal.invariant-loop-index
invariant-loop-index l = record {
  last : l.last ≡ number_before l.size l.fn.before l.run l.index;
  numbered : l.are ≡ true → AreNumbered l.size l.fn.before l.run l.from l.index;
}
