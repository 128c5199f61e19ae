use Rattle.std.proofs.Common.{◌∙◌, ap, subst, sym}
use Rattle.freq10s.specs.Intervals.{FollowFrom, intervals_between}
use Rattle.freq10s.proofs.IntervalLaws.{first_ticks, left_of_all, ticks_follow}
use Rattle.freq10s.proofs.intervals.Intervals.new.Goals as goal

-- they begin at ticks of the clock
pub invariant_of-result : goal.invariant_of-result
invariant_of-result c = record {
  is_clock = c.requires.clock;
  places = c.requires.places;
  ticks = first_ticks c.args.clock c.args.n c.next-begun.result c.next-begun.new.self c.ticks-ticks.result
      c.next-begun.ensures.steps c.ticks-ticks.ensures.each;
}

-- the intervals between all ticks
pub returns-clause-value : goal.returns-clause-value
returns-clause-value c =
    left_of_all c.args.clock c.args.n c.next-begun.result c.next-begun.new.self c.ticks-ticks.result
    c.next-begun.ensures.steps
    ∙ ap (intervals_between c.args.clock c.args.n) c.ticks-ticks.ensures.value

-- which follow one another
pub returns-clause-in_order : goal.returns-clause-in_order
returns-clause-in_order c =
    subst (FollowFrom 0) (sym (returns-clause-value c)) (ticks_follow c.args.clock c.args.n)
