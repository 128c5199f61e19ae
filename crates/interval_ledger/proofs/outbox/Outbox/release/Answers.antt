use Rattle.std.proofs.Common.{◌≡◌, ◌+◌, ◌-◌, ◌≤◌, length, take, drop, vec_len, vec_capacity, sym, ◌∙◌, ap, subst, arith}
use Rattle.std.proofs.lemmas.List.{length-take-le}
use Rattle.interval_ledger.specs.Outbox.{Outgoing, Releases}
use Rattle.interval_ledger.proofs.OutboxLaws.{IsCutAt, now_released, now_pending, now_counted}
use Rattle.interval_ledger.proofs.outbox.Outbox.release.Goals as goal

-- the list is in order from the place on, and is cut where the first item does not end by w
pub returns-clause-items : goal.returns-clause-items
returns-clause-items g c =
    let from = c.self.inside.released in
    let items = c.self.inside.items.items in
    let due = c.due_count-due.result in
    let new = c.sort_from.new.items.items in
    let seen = c.deref.result.now in
    let inside : from ≤ length items = subst (λ n. from ≤ n) c.self.inside.items.ok.0 c.self.invariant in
    let said = c.due_count-due.ensures in
    let cuts : IsCutAt c.args.w due (take (length seen - from) (drop from seen)) =
    record { within = said.within; passed = said.due; stops = said.later } in
    let is = c.sort_from.ensures.items in
    let same = c.deref.ensures.value in
    let after : Outgoing = record {
      released = take (from + due) new;
      pending = drop (from + due) new;
      room = vec_capacity c.sort_from.new.items - vec_len c.sort_from.new.items;
    } in
    subst (λ (old : Outgoing). Releases c.args.w old after) c.self.view_is (record {
      released = now_released c.args.w from due items new seen inside is same cuts;
      pending = now_pending c.args.w from due items new seen inside is same cuts;
    })

-- a step for each that is due
pub returns-clause-cost : goal.returns-clause-cost
returns-clause-cost g c =
    let from = c.self.inside.released in
    let items = c.self.inside.items.items in
    let due = c.due_count-due.result in
    let new = c.sort_from.new.items.items in
    let seen = c.deref.result.now in
    let inside : from ≤ length items = subst (λ n. from ≤ n) c.self.inside.items.ok.0 c.self.invariant in
    let said = c.due_count-due.ensures in
    let cuts : IsCutAt c.args.w due (take (length seen - from) (drop from seen)) =
    record { within = said.within; passed = said.due; stops = said.later } in
    let counted : length (take (from + due) new) ≡ from + due =
    now_counted c.args.w from due items new seen inside c.sort_from.ensures.items c.deref.ensures.value cuts
    in
    let old : length c.args.self.now.released ≡ from =
    ap (λ o. length o.released) (sym c.self.view_is) ∙ length-take-le from items inside in
    let ticked = c.loop.invariant in
    let until = c.loop.auto.counter-end in
    let all = c.loop-test.false in
    omega (arith, counted, old, ticked, until, all)
