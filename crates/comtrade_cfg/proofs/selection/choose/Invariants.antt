use Rattle.std.proofs.Common.{◌≡◌, [], drop}
use Rattle.comtrade_cfg.specs.Selecting.{chosen_after}
use Rattle.comtrade_cfg.proofs.selection.choose.Given as goal

abbrev pub invariant-loop-number : goal.invariant-loop-number
invariant-loop-number l = chosen_after l.channels l.chosen.items (drop l.number-index l.wanted)
    ≡ chosen_after l.channels [] l.wanted
