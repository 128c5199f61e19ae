-- No latest values both begin and end an event of one kind.
use Rattle.std.proofs.Common.{IsTrue}
use Rattle.polyphase.specs.PolyphaseEvent.{begins, ends}
use Rattle.polyphase.proofs.ApartLaws.{apart}
use Rattle.polyphase.proofs.poly.step.Goals as goal

pub step-requires : goal.step-requires
step-requires c begin end =
    apart c.args.kind c.args.latest.now.limits c.args.latest.now.values c.requires
    c.begins.result c.ends.result c.begins.ensures c.ends.ensures begin end
