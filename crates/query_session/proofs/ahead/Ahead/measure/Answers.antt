use Rattle.std.proofs.Common.{◌∙◌, ap, take}
use Rattle.query_session.specs.Ahead.{AheadView, items_left}
use Rattle.query_session.proofs.ListLaws.{is_front}
use Rattle.query_session.proofs.ahead.Ahead.measure.Goals as goal

pub returns-clause-left : goal.returns-clause-left
returns-clause-left c = c.refill.ensures.left ∙ ap items_left c.self.view_is

pub returns-clause-measured : goal.returns-clause-measured
returns-clause-measured c =
    is_front 65 _ _ _ c.refill.ensures.left c.refill.ensures.size
    ∙ ap (λ (a : AheadView). take 65 (items_left a)) c.self.view_is
