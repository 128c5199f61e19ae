use Rattle.std.proofs.Common.{◌<◌, sym, subst, ◌∙◌, ap, arith}
use Rattle.lanes.specs.Lane.{lane_count, lane_items}
use Rattle.pq_base.specs.Recorded.{Recorded}
use Rattle.worked_ledger.proofs.LaneLemmas.{lane_at, lanes_there}
use Rattle.worked_ledger.proofs.measured.Measured.lane.Goals as goal

-- there is a list for the lane
pub index-requires : goal.index-requires
index-requires c =
    let r = c.self.inside.recording.now in
    let inside : c.args.lane < lane_count r =
    subst (λ (seen : Recorded). c.args.lane < lane_count seen) (sym c.self.view_is) c.requires in
    omega (arith, inside, lanes_there r c.self.inside.lanes.items c.self.invariant)

-- which has its items
pub returns : goal.returns
returns c =
    let r = c.self.inside.recording.now in
    let inside : c.args.lane < lane_count r =
    subst (λ (seen : Recorded). c.args.lane < lane_count seen) (sym c.self.view_is) c.requires in
    c.as_slice.ensures.value
    ∙ lane_at r c.self.inside.lanes.items c.args.lane c.index.result.now c.self.invariant inside
    c.index.ensures
    ∙ ap (λ seen. lane_items seen c.args.lane) c.self.view_is
