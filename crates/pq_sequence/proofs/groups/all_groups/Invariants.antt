use Rattle.std.proofs.Common.{take}
use Rattle.aggregate.specs.Aggregator.{HasSeen, HasSetting}
use Rattle.pq_sequence.specs.Measured.{AreGroupsOf, basics_seen}
use Rattle.pq_sequence.proofs.groups.all_groups.Given as goal

-- what the basic intervals so far make
abbrev pub invariant-loop-basic : goal.invariant-loop-basic
invariant-loop-basic l = record {
  seen : HasSeen l.aggregator (take l.basic-index (basics_seen l.channels l.basics));
  setting : HasSetting l.aggregator l.fn.clock l.n l.channels;
  groups : AreGroupsOf l.fn.clock l.n l.channels (take l.basic-index (basics_seen l.channels l.basics))
      l.groups;
}
