use Rattle.std.proofs.Common.{◌≡◌, drop}
use Rattle.std.specs.VecDeque.{deque_capacity}
use Rattle.interval_ledger.specs.Ledger.{PostsMany}
use Rattle.query_session.proofs.ahead.post_front.Given as goal

abbrev pub invariant-loop : goal.invariant-loop
invariant-loop l = record {
  room : deque_capacity l.next ≡ deque_capacity l.fn.next;
  posts : PostsMany l.fn.ledger l.ledger l.lane l.counter;
  items : l.next.items ≡ drop l.counter l.fn.next.items;
}
