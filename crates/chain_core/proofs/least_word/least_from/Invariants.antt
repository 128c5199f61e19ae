use Rattle.std.proofs.Common.{◌≡◌, min, drop}
use Rattle.std.specs.List.{fold}
use Rattle.chain_core.proofs.least_word.least_from.Given as goal

-- the least so far, and those that are left, give the least of all
abbrev pub invariant-loop-word : goal.invariant-loop-word
invariant-loop-word l = fold min l.least (drop l.word-index l.others) ≡ fold min l.first l.others
