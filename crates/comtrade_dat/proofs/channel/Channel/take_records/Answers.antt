use Rattle.std.proofs.Common.{◌≡◌, ◌∙◌, ◌+◌, ◌≤◌, ap, subst, sym, arith, rules}
use Rattle.comtrade_dat.proofs.ChannelLemmas.{counts_further, none_read_on, read_further}
use Rattle.comtrade_dat.specs.Channel.{read_on}
use Rattle.comtrade_dat.specs.Run.{HaveCounts}
use Rattle.comtrade_dat.proofs.channel.Channel.take_records.Goals as goal

pub loop-from-init : goal.loop-from-init
loop-from-init c = record {
  start = omega arith;
  within = c.requires.forward;
  read = record {
    value = sym (none_read_on c.args.size c.args.dat.now c.args.start c.args.self.now);
    counted = λ index low high. absurd (omega (arith, low, high));
  };
}

-- a few more records
pub loop-from-preserved : goal.loop-from-preserved
loop-from-preserved c =
    let size = c.args.size in
    let dat = c.args.dat.now in
    let start = c.args.start in
    let from = c.loop-from.from in
    let next = from + c.min.result in
    let before = c.args.self.now in
    let on : from ≤ next = omega arith in
    let so_far = c.loop-from.invariant in
    let taken : c.take_counts.new.self ≡ read_on size dat from next c.loop-from.self = search rules in
    let here : HaveCounts size dat from next before.position =
    subst (HaveCounts size dat from next) c.position-position.ensures
    (c.have_counts.ensures c.if-not-have_counts.false) in
    record {
      start = omega arith;
      within = omega arith;
      read = record {
        value = taken ∙ (ap (read_on size dat from next) so_far.read.value
            ∙ read_further size dat start from next so_far.start on before);
        counted = counts_further size dat start from next before.position so_far.read.counted here;
      };
    }
