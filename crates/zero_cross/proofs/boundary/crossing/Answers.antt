use Rattle.std.proofs.Common.{Some, None, sym, ◌∙◌, arith}
use Rattle.zero_cross.specs.Boundary.{crosses_at}
use Rattle.pq_words.proofs.FirstLaws.{first_between_only, nowhere_more}
use Rattle.zero_cross.proofs.boundary.crossing.Goals as goal

-- the place at hand crosses, and none before it does
pub returns-then-crosses-clause-value : goal.returns-then-crosses-clause-value
returns-then-crosses-clause-value c =
    first_between_only (crosses_at c.args.samples.now c.args.rising) c.args.low c.args.high
    (Some c.loop-place.place) (record {
      after = c.loop-place.auto.place;
      below = c.loop-place-test.true;
      passes = sym c.crosses.ensures ∙ c.if-crosses.true;
      none_before = c.loop-place.invariant;
    })

-- one more place that does not cross
pub loop-place-preserved : goal.loop-place-preserved
loop-place-preserved c =
    nowhere_more (crosses_at c.args.samples.now c.args.rising) c.args.low c.loop-place.place
    c.loop-place.invariant (sym c.crosses.ensures ∙ c.if-crosses.false)

-- no place crosses
pub returns-clause-value : goal.returns-clause-value
returns-clause-value c =
    first_between_only (crosses_at c.args.samples.now c.args.rising) c.args.low c.args.high None
    (λ k from below passes. c.loop-place.invariant k from (omega (arith, below, c.loop-place-test.false))
    passes)
