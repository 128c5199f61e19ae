use Rattle.std.proofs.Common.{◌≡◌, ◌++◌, take}
use Rattle.std.specs.List.{flat_map}
use Rattle.comtrade_dat.specs.BinaryRecord.{count_bytes}
use Rattle.comtrade_dat.proofs.writing.push_counts.Given as goal

-- the bytes of the counts so far
abbrev pub invariant-loop-count : goal.invariant-loop-count
invariant-loop-count l = l.bytes.items ≡ l.fn.bytes.items ++ flat_map count_bytes
    (take l.count-index l.counts)
