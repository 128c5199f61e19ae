use Rattle.std.proofs.Common.{◌≡◌, ◌∙◌, ◌++◌, append-nil, ap, arith, sym, subst}
use Rattle.std.proofs.lemmas.List.{drop_all}
use Rattle.pq_sequence.specs.Touches.{AreReaches}
use Rattle.pq_sequence.proofs.TouchLemmas.{carried, carried_reaches}
use Rattle.pq_sequence.proofs.touches.reaches_in_order.Goals as goal

-- no event is left
pub returns : goal.returns
returns c =
    let events = c.args.events.now in
    let found = c.loop-event.found.items in
    let all : found ≡ carried 0 events =
    sym (append-nil found) ∙ ap (λ left. found ++ carried c.loop-event.furthest left)
    (sym (drop_all c.loop-event.event-index events (omega arith))) ∙ c.loop-event.invariant in
    subst (AreReaches events) (sym all) (carried_reaches events c.requires)
