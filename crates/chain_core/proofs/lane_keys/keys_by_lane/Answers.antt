use Rattle.std.proofs.Common.{◌++◌, ◌∷◌, [], map, sym, ◌∙◌, ap}
use Rattle.chain_core.specs.MeasuredOf.{keys_at}
use Rattle.pq_words.specs.Steps.{numbers_below, numbers_from}
use Rattle.pq_words.proofs.StepLaws.{map_below_push}
use Rattle.chain_core.proofs.lane_keys.keys_by_lane.Goals as goal

-- no lane yet
pub loop-lane-init : goal.loop-lane-init
unfolding numbers_from
loop-lane-init c = c.in_ok-found.ensures.items

-- one lane more
pub loop-lane-preserved : goal.loop-lane-preserved
loop-lane-preserved c =
    let f = keys_at c.args.recording.now in
    let lane = c.loop-lane.lane in
    let keys = c.in_ok-lane_keys.field-0.items in
    c.in_ok-push.ensures.items
    ∙ ap (λ xs. xs ++ keys ∷ []) c.loop-lane.invariant
    ∙ ap (λ k. map f (numbers_below lane) ++ k ∷ []) c.in_ok-lane_keys.ensures
    ∙ sym (map_below_push f lane)
