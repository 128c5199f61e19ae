use Rattle.std.proofs.Common.{◌∙◌, ap, sym, subst, drop, refl, List}
use Rattle.lanes.specs.declared.lane_item.LaneItem.{LaneItem}
use Rattle.query_session.specs.Ahead.{IsFirstNext}
use Rattle.query_session.proofs.ListLaws.{drop_again}
use Rattle.query_session.proofs.SeatLaws.{next_after, posts_none, posts_on}
use Rattle.query_session.proofs.ahead.post_front.Goals as goal

pub loop-init : goal.loop-init
loop-init c = record {
  room = refl;
  posts = posts_none c.args.ledger.now.settlement c.args.lane;
  items = refl;
}

pub post_first-requires-clause-next : goal.post_first-requires-clause-next
post_first-requires-clause-next c =
    let h = c.loop.invariant in
    subst (λ (xs : List LaneItem). IsFirstNext c.loop.ledger c.args.lane xs) (sym h.items)
    (next_after c.args.ledger.now c.loop.ledger c.args.lane c.loop.counter c.args.next.now.items
    c.requires.lane c.requires.next h.posts)

pub loop-preserved : goal.loop-preserved
loop-preserved c = let h = c.loop.invariant in let one = c.post_first.ensures in record {
  room = one.room ∙ h.room;
  posts = posts_on c.args.ledger.now c.loop.ledger c.post_first.new.ledger c.args.lane c.loop.counter
      c.requires.lane h.posts one.posts;
  items = one.items ∙ (ap (drop 1) h.items ∙ drop_again 1 c.loop.counter c.args.next.now.items);
}
