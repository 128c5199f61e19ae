use Rattle.std.proofs.Common.{◌≤◌, arith}
use Rattle.std.proofs.lemmas.List.Elements.{All-more}
use Rattle.interval_ledger.proofs.SegmentLaws.{found_later, past_later}
use Rattle.interval_ledger.proofs.segments.passed_by.Goals as goal

-- one more is passed
pub loop-passed-preserved : goal.loop-passed-preserved
loop-passed-preserved c =
    let inside = c.loop-passed-test.true in
    record {
      there = omega (arith, inside);
      earlier = All-more (λ p. p ≤ c.args.before) c.args.places.now c.loop-passed.passed 0 inside
          c.loop-passed.invariant.earlier c.if-places-passed.true;
    }

-- the next lies later
pub returns-else-places-passed-clause-later : goal.returns-else-places-passed-clause-later
returns-else-places-passed-clause-later c =
    found_later c.args.places.now c.loop-passed.passed c.args.before c.if-places-passed.false

-- or there is none
pub returns-after-loop-passed-clause-later : goal.returns-after-loop-passed-clause-later
returns-after-loop-passed-clause-later c =
    past_later c.args.places.now c.loop-passed.passed c.args.before c.loop-passed-test.false
