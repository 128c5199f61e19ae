use Rattle.std.proofs.Common.{◌≡◌, ◌≤◌, take, All}
use Rattle.pq_items.specs.ItemTable.{end_of}
use Rattle.interval_ledger.proofs.outbox.due_count.Given as goal

-- all items so far end by w
abbrev pub invariant-loop-item : goal.invariant-loop-item
invariant-loop-item l = (l.count ≡ l.item-index) × All (λ i. end_of i ≤ l.w) (take l.item-index l.items)
