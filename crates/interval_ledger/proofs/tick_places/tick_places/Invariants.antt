use Rattle.std.proofs.Common.{◌≡◌, ◌++◌, map, All}
use Rattle.pq_time.specs.Tick.{IsTick, tick_place, ticks}
use Rattle.interval_ledger.proofs.tick_places.tick_places.Given as goal

-- the places so far, and those of the ticks that are left
abbrev pub invariant-loop-second : goal.invariant-loop-second
invariant-loop-second l = record {
  whole : l.found.items ++ map (tick_place l.clock l.n) l.second-iterator
      ≡ map (tick_place l.clock l.n) (ticks l.clock l.n 600);
  ticks : All (IsTick l.clock l.n 600) l.second-iterator;
}
