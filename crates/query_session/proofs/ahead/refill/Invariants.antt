use Rattle.std.proofs.Common.{◌≡◌, ◌++◌, length}
use Rattle.std.specs.VecDeque.{deque_capacity}
use Rattle.query_session.proofs.ahead.refill.Given as goal

abbrev pub invariant-loop : goal.invariant-loop
invariant-loop l = record {
  room : deque_capacity l.next ≡ deque_capacity l.fn.next;
  left : l.next.items ++ l.source ≡ l.fn.next.items ++ l.fn.source;
  size : length l.next.items ≡ l.counter;
}
