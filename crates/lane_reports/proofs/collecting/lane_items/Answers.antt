use Rattle.std.proofs.Common.{List, All, subst, sym}
use Rattle.lane_reports.proofs.RangeLaws.{result_ranges}
use Rattle.pq_items.specs.ItemRange.{IsItemInRange}
use Rattle.pq_items.specs.declared.item.Item.{Item}
use Rattle.lane_reports.proofs.collecting.lane_items.Goals as goal

-- the items are the result, of which each is in range
pub returns-in-All-clause-within : goal.returns-in-All-clause-within
returns-in-All-clause-within g c = subst (λ (items : List Item). All IsItemInRange items)
    (sym c.in-All.ensures.runs.runs_to.0)
    (result_ranges c.in_ok-chain.session c.in_ok-chain.ensures.session.recording)
