use Rattle.std.proofs.Common.{◌∙◌, ◌+◌, ◌*◌, length, ap, arith}
use Rattle.interval_ledger.specs.declared.merging.Merging.{Merging}
use Rattle.lanes.specs.Lane.{lane_count}
use Rattle.interval_ledger.proofs.settlement.Settlement.lanes.Goals as goal

-- as many channels as the recording has
pub lanes-requires : goal.lanes-requires
lanes-requires c =
    let posted = c.self.invariant.merging.posted in
    let many = posted.posted.many in
    let few = posted.given.channels.1 in
    let all = ap length c.deref.ensures.value in
    let here = ap (λ (s : Merging). length s.channels.items) c.deref-merging.ensures in
    omega (arith, many, few, all, here)

pub returns : goal.returns
returns c =
    c.lanes.ensures
    ∙ ap (λ cs. 2 * length cs + 1) c.deref.ensures.value
    ∙ ap (λ (s : Merging). 2 * length s.channels.items + 1) c.deref-merging.ensures
    ∙ ap (λ n. 2 * n + 1) c.self.invariant.merging.posted.posted.many
    ∙ ap (λ v. lane_count v.recording) c.self.view_is
