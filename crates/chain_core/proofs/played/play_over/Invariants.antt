use Rattle.std.proofs.Common.{◌≡◌, drop, length}
use Rattle.chain_core.specs.Core.{start_core}
use Rattle.chain_core.specs.Play.{answers_from}
use Rattle.chain_core.proofs.PlayLaws.{before}
use Rattle.chain_core.proofs.played.play_over.Given as goal

-- the answers so far, and those of the steps that are left, are all
abbrev pub invariant-loop-index : goal.invariant-loop-index
invariant-loop-index l = before l.answers.items (answers_from l.measurement l.index l.machine
    (drop l.index l.steps))
    ≡ answers_from l.measurement 0 (start_core (length l.measurement.keys)) l.steps
