use Rattle.std.proofs.Common.{◌++◌, ◌∷◌, [], map, sym, ◌∙◌, ap}
use Rattle.std.specs.declared.alloc.Global.{Global}
use Rattle.std.specs.declared.vec.Vec.{Vec}
use Rattle.std.proofs.lemmas.List.{map-append}
use Rattle.lanes.specs.declared.lane_item.LaneItem.{LaneItem}
use Rattle.lanes.specs.Lane.{lane_items}
use Rattle.pq_words.specs.Steps.{numbers_below, numbers_from}
use Rattle.pq_words.proofs.StepLaws.{map_below_push}
use Rattle.worked_ledger.proofs.measured.all_lanes.Goals as goal

-- no lane yet
pub loop-lane-init : goal.loop-lane-init
unfolding numbers_from
loop-lane-init c = ap (map (λ items. items.items)) c.new-lanes.ensures.items

-- one lane more
pub loop-lane-preserved : goal.loop-lane-preserved
loop-lane-preserved c =
    let f = lane_items c.args.recording.now in
    let lane = c.loop-lane.lane in
    let view = λ (items : Vec LaneItem Global). items.items in
    let items = c.in_ok-lane_list.field-0 in
    ap (map view) c.in_ok-push.ensures.items
    ∙ map-append view c.loop-lane.lanes.items (items ∷ [])
    ∙ ap (λ lists. lists ++ view items ∷ []) c.loop-lane.invariant
    ∙ ap (λ list. map f (numbers_below lane) ++ list ∷ [])
    (c.in_ok-lane_list.ensures ∙ ap (λ r. lane_items r lane) c.in_ok-sources.ensures)
    ∙ sym (map_below_push f lane)
