use Rattle.std.proofs.Common.{◌∙◌, ◌<◌, length, slice_index, ap, sym, subst, arith}
use Rattle.interval_ledger.specs.Count.{counts_of}
use Rattle.interval_ledger.specs.Settlement.{SettlementView, posted_count}
use Rattle.interval_ledger.specs.declared.merging.Merging.{Merging}
use Rattle.lanes.specs.Lane.{lane_count}
use Rattle.interval_ledger.proofs.settlement.Settlement.count.Goals as goal

-- there are as many channels as the recording has
pub count-requires : goal.count-requires
count-requires c =
    let many = c.self.invariant.merging.posted.posted.many in
    let inside = subst (λ (v : SettlementView). c.args.lane < lane_count v.recording) (sym c.self.view_is)
    c.requires in
    let all = ap length c.deref.ensures.value in
    let here = ap (λ (s : Merging). length s.channels.items) c.deref-merging.ensures in
    omega (arith, many, inside, all, here)

pub returns : goal.returns
returns c =
    c.count.ensures
    ∙ ap (λ cs. slice_index (counts_of cs c.deref-merging.result.now.readings.items) c.args.lane)
    c.deref.ensures.value
    ∙ ap (λ (s : Merging). slice_index (counts_of s.channels.items s.readings.items) c.args.lane)
    c.deref-merging.ensures
    ∙ ap (λ v. posted_count v c.args.lane) c.self.view_is
