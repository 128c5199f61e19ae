use Rattle.std.proofs.Common.{◌≤◌, ◌∙◌, ap, sym, subst, length, drop}
use Rattle.interval_ledger.specs.Ledger.{AreNextItems}
use Rattle.query_session.specs.Ahead.{AheadView}
use Rattle.query_session.proofs.ahead.Ahead.post.Goals as goal

pub post_front-requires-clause-next : goal.post_front-requires-clause-next
post_front-requires-clause-next c =
    subst (λ (a : AheadView). AreNextItems c.args.ledger.now c.args.lane a.measured)
    (sym c.self.view_is) c.requires.next

pub post_front-requires-clause-few : goal.post_front-requires-clause-few
post_front-requires-clause-few c = subst (λ (a : AheadView). c.args.count ≤ length a.measured)
    (sym c.self.view_is) c.requires.few

pub returns-clause-measured : goal.returns-clause-measured
returns-clause-measured c = c.post_front.ensures.items
    ∙ ap (λ (a : AheadView). drop c.args.count a.measured) c.self.view_is
