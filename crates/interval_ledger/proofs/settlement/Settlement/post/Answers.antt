use Rattle.std.proofs.Common.{◌≡◌, ℕ, Some, slice_get, slice_index, sym, ◌∙◌, ap, subst}
use Rattle.interval_ledger.specs.declared.merging.Merging.{Merging}
use Rattle.interval_ledger.specs.Count.{counts_of}
use Rattle.interval_ledger.specs.IsLedger.{IsLedger, settlement_of}
use Rattle.interval_ledger.specs.Merging.{merged_items}
use Rattle.interval_ledger.specs.Settlement.{SettlementView, posted_count, with_post}
use Rattle.interval_ledger.proofs.LedgerLaws.{IsAfterPost, after_post, has_place}
use Rattle.lanes.specs.declared.lane_item.LaneItem.{LaneItem}
use Rattle.lanes.specs.Lane.{lane_items}
use Rattle.interval_ledger.proofs.settlement.Settlement.post.Goals as goal

-- the item is the next of its lane
next_inside : (s : Merging) (v : SettlementView) (lane : ℕ) (i : LaneItem) → settlement_of s ≡ v →
    slice_get (lane_items v.recording lane) (posted_count v lane) ≡ Some i →
    slice_get (lane_items s.known.recording lane)
    (slice_index (counts_of s.channels.items s.readings.items) lane) ≡ Some i
next_inside s v lane i seen is =
    subst (λ (v : SettlementView). slice_get (lane_items v.recording lane) (posted_count v lane) ≡ Some i)
    (sym seen) is

pub post-requires : goal.post-requires
post-requires c =
    let s : Merging = c.deref_mut-merging.result.now in
    let here = c.deref_mut-merging.ensures.value in
    let seen : settlement_of s ≡ c.args.self.now = ap settlement_of here ∙ c.self.view_is in
    has_place s (subst IsLedger (sym here) c.self.invariant) c.args.lane c.args.item
    (next_inside s c.args.self.now c.args.lane c.args.item seen c.requires)

after : (c : goal.After-self-1) → IsAfterPost c.deref_mut-merging.result.now
    (record c.deref_mut-merging.result.now {
      channels = c.post.new.channels;
      readings = c.post.new.readings;
    }) c.args.lane
after c =
    let s : Merging = c.deref_mut-merging.result.now in
    let here = c.deref_mut-merging.ensures.value in
    let seen : settlement_of s ≡ c.args.self.now = ap settlement_of here ∙ c.self.view_is in
    after_post s (subst IsLedger (sym here) c.self.invariant) c.args.lane c.args.item
    (next_inside s c.args.self.now c.args.lane c.args.item seen c.requires)
    c.post.new.channels c.post.new.readings c.post.ensures

pub invariant_of-self : goal.invariant_of-self
invariant_of-self c = (after c).0

pub returns-clause-posted : goal.returns-clause-posted
returns-clause-posted c = (after c).0.posted

-- only the lane's count is another
pub returns-clause-value : goal.returns-clause-value
returns-clause-value c =
    let s : Merging = c.deref_mut-merging.result.now in
    let t : Merging = record s { channels = c.post.new.channels; readings = c.post.new.readings } in
    let seen : SettlementView = settlement_of s in
    ap (λ ns. record seen { counts = ns; merged = merged_items t }) (after c).1
    ∙ ap (λ n. record (with_post seen c.args.lane) { merged = n }) (after c).2
    ∙ ap (λ v. with_post v c.args.lane) (ap settlement_of c.deref_mut-merging.ensures.value ∙ c.self.view_is)
