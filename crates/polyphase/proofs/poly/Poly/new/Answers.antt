-- Nothing runs and there are no values, so nothing need have been seen.
use Rattle.std.proofs.Common.{[], sym, subst}
use Rattle.polyphase.specs.Latest.{LatestView}
use Rattle.polyphase.specs.Poly.{HasSeen, poly_view}
use Rattle.polyphase.proofs.PolyLaws.{nothing_seen}
use Rattle.polyphase.proofs.poly.Poly.new.Goals as goal

pub returns-clause-value : goal.returns-clause-value
returns-clause-value c =
    let P : LatestView → Type 0 = λ l. HasSeen (poly_view l c.new-2.result c.new-3.result c.new-4.result)
    [] in
    subst P (sym c.new.ensures)
    (nothing_seen c.args.channels c.args.limits c.new-2.result c.new-3.result c.new-4.result
    c.new-2.ensures.kind c.new-3.ensures.kind c.new-4.ensures.kind
    c.new-2.ensures.value c.new-3.ensures.value c.new-4.ensures.value)
