use Rattle.std.proofs.Common.{arith, ◌-◌, take, drop, length, sym, subst}
use Rattle.std.proofs.Math.Seq.{take-add}
use Rattle.std.proofs.lemmas.List.{take_all, length-drop}
use Rattle.std.proofs.KnownBytes.{Appends-trans}
use Rattle.std.specs.Io.KnownBytes.{Appends}
use Rattle.pq_base.proofs.sink.write_all.Goals as goal

-- the front so far, and what this write took
pub loop-done-preserved : goal.loop-done-preserved
loop-done-preserved g c =
    let taken = g.O.Sink.taken in
    let done = c.loop-done.done in
    let count = c.in-Ok.count in
    let rest = drop done c.args.bytes.now in
    let whole = take_all (length c.args.bytes.now - done) rest
    (omega (arith, length-drop done c.args.bytes.now)) in
    record {
      within = omega (arith, c.in-Ok.ensures.count.1, c.loop-done-test.true);
      bytes = subst (Appends (taken c.args.out.now) (taken c.write.new.self))
          (sym (take-add done count c.args.bytes.now))
          (Appends-trans _ (taken c.loop-done.out) _ _ _ c.loop-done.invariant.bytes
          (subst (λ bs. Appends (taken c.loop-done.out) (taken c.write.new.self) (take count bs)) whole
          c.in-Ok.ensures.bytes));
      later = omega (arith, c.loop-done.invariant.later, c.in-Ok.ensures.cause.later);
      counted = λ each. cc (c.in-Ok.ensures.counted each, c.loop-done.invariant.counted each);
    }
