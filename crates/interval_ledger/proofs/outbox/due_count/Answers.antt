use Rattle.std.proofs.Common.{arith, ◌+◌, ◌≤◌, ◌≡◌, ◌<◌, take, get_or, All, length, subst, sym, List}
use Rattle.std.proofs.lemmas.List.{take_more}
use Rattle.std.proofs.lemmas.List.Elements.{All-push}
use Rattle.pq_items.specs.declared.item.Item.{Item}
use Rattle.pq_items.specs.ItemTable.{end_of}
use Rattle.std.specs.Prelude.{ℕ}
use Rattle.interval_ledger.proofs.outbox.due_count.Goals as goal

-- one more item ends by w
pass_more : (w i e : ℕ) (items : List Item) (d : Item) → i < length items →
    All (λ x. end_of x ≤ w) (take i items) → e ≡ end_of (get_or items i d) → e ≤ w →
    All (λ x. end_of x ≤ w) (take (i + 1) items)
pass_more w i e items d inside before is until =
    subst (All (λ x. end_of x ≤ w)) (sym (take_more items i d inside))
    (All-push (λ x. end_of x ≤ w) (take i items) (get_or items i d) before (omega (arith, is, until)))

pub loop-item-preserved : goal.loop-item-preserved
loop-item-preserved c =
    let a = c.loop-item.invariant in (
      omega (arith, a.0),
      pass_more c.args.w c.loop-item.item-index c.end.result c.args.items.now _ c.loop-item-test.true a.1
          c.end.ensures c.if-end-w.false,
    )
