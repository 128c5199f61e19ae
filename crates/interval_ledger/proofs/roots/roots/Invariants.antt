use Rattle.std.proofs.Common.{◌≡◌, map, take, length}
use Rattle.interval_ledger.specs.Posted.{root_at}
use Rattle.pq_words.specs.Steps.{numbers_below}
use Rattle.interval_ledger.proofs.roots.roots.Given as goal

-- the channels so far
abbrev pub invariant-loop-position : goal.invariant-loop-position
invariant-loop-position l = record {
  room : length l.roots ≡ 16;
  so_far : take l.position l.roots ≡ map (root_at l.channels l.k) (numbers_below l.position);
}
