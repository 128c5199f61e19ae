-- The steps of calls of `advance`, one after another.
use Rattle.std.proofs.Common.{ℕ, ◌+◌, ◌≤◌, List, [], ◌∷◌, length, ap, arith}
use Rattle.interval_ledger.specs.declared.ledger.Ledger.{Ledger}
use Rattle.interval_ledger.specs.Ledger.{merged_of, released_of}
use Rattle.interval_ledger.specs.Settlement.{items_done}
use Rattle.interval_ledger.specs.StepLaw.{AreCalls, Call, TicksAreFew, last_ledger, last_steps}

-- so many items are merged or released
abbrev done : Ledger → ℕ
done l = merged_of l + length (released_of l)

ticks_from : (ledger : Ledger) (steps : ℕ) (calls : List Call) → AreCalls ledger steps calls →
    last_steps steps calls + done ledger ≤ steps + done (last_ledger ledger calls) + length calls
ticks_from ledger steps [] are = omega arith
ticks_from ledger steps (call ∷ later) are =
    let same = ap items_done are.0 in
    let start = are.1 in
    let ticks = are.2 in
    let rest = ticks_from call.new call.after later are.3 in omega (arith, same, start, ticks, rest)

pub ticks_few : TicksAreFew
ticks_few opened calls none are =
    let last = last_ledger opened calls in
    let all = ticks_from opened 0 calls are in
    let few = last.posted.merged.posted in omega (arith, none, all, few)
