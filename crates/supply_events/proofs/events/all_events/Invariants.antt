use Rattle.std.proofs.Common.{◌<◌, All}
use Rattle.supply_events.proofs.EventLemmas.{IsFedUpTo}
use Rattle.supply_events.proofs.events.all_events.Given as goal

-- the windows but those that are left were fed, and those that are left are of the channels
abbrev pub invariant-loop-window : goal.invariant-loop-window
invariant-loop-window l = record {
  fed : IsFedUpTo l.poly l.lists l.limits l.channels l.fn.windows l.window-iterator;
  there : All (λ m. m.channel < l.channels) l.window-iterator;
}
