use Rattle.std.proofs.Common.{◌<◌, false, [], length, take, sym, subst, arith}
use Rattle.std.proofs.lemmas.List.{get_or-map, length-map}
use Rattle.aggregate.specs.Aggregator.{Completes, MayFollow, SeesMore}
use Rattle.aggregate.proofs.WholeListLaws.{gives_groups}
use Rattle.pq_sequence.specs.declared.basics.BasicInterval.{BasicInterval}
use Rattle.pq_sequence.specs.Measured.{basic_seen, basics_seen}
use Rattle.pq_sequence.proofs.GroupLemmas.{made_more, may_be_fed, none_made, still_set}
use Rattle.pq_sequence.proofs.groups.all_groups.Goals as goal

abbrev none : BasicInterval
none = record { front = false; span = record { start = 0; end = 0 }; values = []; flagged = false }

-- nothing is fed yet
pub loop-basic-init : goal.loop-basic-init
loop-basic-init c = record {
  seen = c.new-aggregator.ensures.value;
  setting = c.new-aggregator.ensures.setting;
  groups = none_made c.args.clock c.args.n c.args.channels c.new-groups.result c.new-groups.ensures;
}

-- the basic intervals come in order
pub step-requires : goal.step-requires
step-requires c =
    let channels = c.args.channels in
    let basics = c.args.basics.now in
    let seen = basics_seen channels basics in
    let i = c.loop-basic.basic-index in
    let a = c.loop-basic.aggregator in
    let first = basic_seen channels none in
    let may = may_be_fed c.args.clock c.args.n channels a c.loop-basic.invariant.setting seen
    c.requires.basics in
    let inside : i < length seen =
    omega (arith, c.loop-basic-test.true, length-map basics (basic_seen channels)) in
    subst (MayFollow a) (get_or-map (basic_seen channels) basics i none first c.loop-basic-test.true)
    (gives_groups.follows seen a i first inside may c.loop-basic.invariant.seen)

-- one basic interval more
pub loop-basic-preserved : goal.loop-basic-preserved
loop-basic-preserved c =
    let clock = c.args.clock in
    let n = c.args.n in
    let channels = c.args.channels in
    let basics = c.args.basics.now in
    let seen = basics_seen channels basics in
    let i = c.loop-basic.basic-index in
    let a = c.loop-basic.aggregator in
    let set = c.loop-basic.invariant.setting in
    let first = basic_seen channels none in
    let may = may_be_fed clock n channels a set seen c.requires.basics in
    let inside : i < length seen =
    omega (arith, c.loop-basic-test.true, length-map basics (basic_seen channels)) in
    let at = get_or-map (basic_seen channels) basics i none first c.loop-basic-test.true in
    let adds = gives_groups.adds seen a i first c.step.result inside may c.loop-basic.invariant.seen
    (subst (λ b. Completes a b c.step.result) (sym at) c.step.ensures.value) in
    record {
      seen = gives_groups.sees seen a c.step.new.self i first inside may c.loop-basic.invariant.seen
          (subst (SeesMore a c.step.new.self) (sym at) c.step.ensures.seen);
      setting = still_set clock n channels a set c.step.new.self c.step.ensures.same;
      groups = made_more clock n channels a set (take i seen) _ c.step.result c.loop-basic.groups
          c.add.new.self adds c.in_ok-add.ensures c.loop-basic.invariant.groups;
    }
