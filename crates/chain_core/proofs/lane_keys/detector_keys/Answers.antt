use Rattle.std.proofs.Common.{◌≡◌, ◌+◌, ◌++◌, ◌∷◌, [], ◌<◌, List, ℕ, length, map, All, append_assoc, sym, subst, ap, ◌∙◌, arith, rules}
use Rattle.std.proofs.lemmas.Grind.{common_steps}
use Rattle.std.proofs.lemmas.List.Elements.{All-tail}
use Rattle.event_detect.specs.declared.window.Window.{Window}
use Rattle.half_cycle.specs.HalfCycleWindow.{windows}
use Rattle.half_cycle.proofs.WindowBounds.{windows_lie}
use Rattle.lanes.specs.Lane.{lane_key}
use Rattle.lanes.specs.declared.lane_item.LaneItem.TheVariants as item
use Rattle.pq_base.specs.Recorded.{samples_at}
use Rattle.chain_core.proofs.lane_keys.detector_keys.Goals as goal

abbrev LiesWithin : ℕ → Window → Type 0
LiesWithin n w = (w.start < w.end) × (w.end < n)

-- all windows are left
pub loop-window-init : goal.loop-window-init
loop-window-init c =
    let samples = c.samples.result.now in
    let rule = c.recorded_rule.result in
    let left = c.into_iter-window-iterator.result in
    let all : left ≡ windows samples rule = first_of (search rules, grind (arith, common_steps)) in
    record {
      whole = ap (λ ks. ks ++ map lane_key (map item.Window left)) c.new-keys.ensures.items;
      within = subst (λ n. All (LiesWithin n) left) (ap length c.samples.ensures.value)
          (subst (λ ws. All (LiesWithin (length samples)) ws) (sym all)
          (windows_lie samples rule c.recorded_rule.ensures.rule));
    }

-- a window more, with its key
pub loop-window-preserved : goal.loop-window-preserved
loop-window-preserved c =
    let n = length (samples_at c.args.recording.now c.args.position) in
    let w = c.in-Some.window in
    let rest = c.next.new.self in
    let splits = c.in-Some.ensures.steps in
    let keys = c.loop-window.keys.items in
    record {
      whole = ap (λ ks. ks ++ map lane_key (map item.Window rest)) c.in_ok-push.ensures.items
          ∙ append_assoc keys ((w.start + 1) ∷ []) (map lane_key (map item.Window rest))
          ∙ ap (λ ws. keys ++ map lane_key (map item.Window ws)) (sym splits)
          ∙ c.loop-window.invariant.whole;
      within = All-tail (LiesWithin n) w rest
          (subst (λ (ws : List Window). All (LiesWithin n) ws) splits c.loop-window.invariant.within);
    }
