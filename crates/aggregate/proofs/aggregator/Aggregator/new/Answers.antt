use Rattle.std.proofs.Common.{subst, sym}
use Rattle.aggregate.specs.TwoHourSum.{HasSeen as HasSeenTens}
use Rattle.aggregate.proofs.WholeListLaws.{no_tens}
use Rattle.aggregate.proofs.aggregator.Aggregator.new.Goals as goal

-- no machine has seen anything, and no basic intervals make no 10-minute intervals
pub returns-clause-value : goal.returns-clause-value
returns-clause-value c =
    let ten = c.new-2.result in
    record {
      of_short = c.new.ensures.value;
      of_ten = c.new-2.ensures.value;
      of_two = subst (HasSeenTens c.new-3.result) (sym (no_tens ten.clock ten.samples ten.channels))
          c.new-3.ensures.value;
    }
