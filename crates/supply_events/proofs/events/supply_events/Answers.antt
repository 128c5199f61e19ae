use Rattle.std.proofs.Common.{◌≡◌, ◌<◌, All, List, length, rules, subst, sym}
use Rattle.polyphase.specs.PolyphaseEvent.{ChannelWindow, merged_windows}
use Rattle.supply_events.proofs.ThereLemmas.{merged_there}
use Rattle.supply_events.proofs.events.supply_events.Goals as goal

-- a merged window is of one of the channels
pub all_events-requires-clause-there : goal.all_events-requires-clause-there
all_events-requires-clause-there c =
    let channels = c.args.channels.items in
    let count : length channels ≡ c.len-count.result = search rules in
    subst (λ (ws : List ChannelWindow). All (λ m. m.channel < c.len-count.result) ws) (sym c.new.ensures)
    (subst (λ n. All (λ (m : ChannelWindow). m.channel < n) (merged_windows channels)) count
    (merged_there channels))
