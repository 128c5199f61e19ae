-- The counts tell what the definition asks of each value.
use Rattle.polyphase.proofs.LatestLaws.{dip_begins, swell_begins, interruption_begins}
use Rattle.polyphase.proofs.latest.Latest.begins.Goals as goal

pub returns-in-Dip : goal.returns-in-Dip
returns-in-Dip c =
    let i = c.self.inside in
    dip_begins i.limits i.channels i.values i.counts c.self.invariant c.args.kind c.args.self.now
    c.self.view_is c.in-Dip.is

pub returns-in-Swell : goal.returns-in-Swell
returns-in-Swell c =
    let i = c.self.inside in
    swell_begins i.limits i.channels i.values i.counts c.self.invariant c.args.kind c.args.self.now
    c.self.view_is c.in-Swell.is

pub returns-in-Interruption : goal.returns-in-Interruption
returns-in-Interruption c =
    let i = c.self.inside in
    interruption_begins i.limits i.channels i.values i.counts c.self.invariant c.args.kind c.args.self.now
    c.self.view_is c.in-Interruption.is
