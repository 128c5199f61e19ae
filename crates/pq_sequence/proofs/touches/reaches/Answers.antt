use Rattle.std.proofs.Common.{List, rules, sym, subst}
use Rattle.std.specs.List.Sorted.{IsNonDecreasingBy, IsPermutation}
use Rattle.std.proofs.lemmas.List.Sorted.{IsNonDecreasingBy-from_sort_by_key}
use Rattle.std.proofs.lemmas.Result.{IfOk-weaker}
use Rattle.event_detect.specs.declared.event.Event.{Event}
use Rattle.pq_sequence.specs.Touches.{AreReaches}
use Rattle.pq_sequence.proofs.TouchLemmas.{reaches_permuted}
use Rattle.pq_sequence.proofs.touches.reaches.Goals as goal

-- they are sorted by their beginnings
pub reaches_in_order-requires : goal.reaches_in_order-requires
reaches_in_order-requires c =
    subst (λ (events : List Event). IsNonDecreasingBy (λ event. event.start) events)
    (sym c.deref.ensures.value)
    (IsNonDecreasingBy-from_sort_by_key (λ event. event.start) _ c.sort_unstable_by_key.ensures.sorted
    (λ a r q k. search rules))

-- the same events, in another order
pub returns : goal.returns
returns c =
    let events = c.args.events.now in
    let before = subst (λ (events : List Event). IsPermutation events c.sort_unstable_by_key.new.self.items)
    c.in_ok-sorted.ensures.items c.sort_unstable_by_key.ensures.permutation in
    let permuted = subst (λ (sorted : List Event). IsPermutation events sorted) (sym c.deref.ensures.value)
    before in
    IfOk-weaker c.reaches_in_order.result (λ found. AreReaches c.deref.result.now found.items)
    (λ found. AreReaches events found.items)
    (λ found are. reaches_permuted events c.deref.result.now found.items permuted are)
    c.reaches_in_order.ensures
