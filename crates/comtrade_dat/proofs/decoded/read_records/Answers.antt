use Rattle.std.proofs.Common.{◌∙◌, ◌+◌, ◌≤◌, map, refl, sym, ap, arith, rules, inl, inr}
use Rattle.comtrade_dat.proofs.ChannelLemmas.{all_read_further, none_read, positions_stay}
use Rattle.comtrade_dat.proofs.JudgingLemmas.{fault_among}
use Rattle.comtrade_dat.specs.Channel.{ChannelRead, read_on}
use Rattle.comtrade_dat.specs.Run.{judged_in}
use Rattle.comtrade_dat.proofs.decoded.read_records.Goals as goal

pub loop-from-init : goal.loop-from-init
loop-from-init g c = record {
  within = omega arith;
  good = refl;
  read = sym (none_read c.args.size c.args.run.now c.args.channels.now);
}

-- a record of this block is at fault
pub returns-in_err-read_block-clause-value : goal.returns-in_err-read_block-clause-value
returns-in_err-read_block-clause-value g c =
    let end = c.loop-from.from + c.min.result in
    let e = c.in_err-read_block.field-0.0 in
    let judged = judged_in c.args.size c.args.positions.now c.args.start c.args.run.now in
    let below : end ≤ c.args.count = omega arith in
    elim c.in_err-read_block.ensures.value [
      | inl short ↦ search (rules, short)
      | inr found ↦ let all = fault_among judged e end c.args.count below found in search (rules, all)
    ]

-- the channels are those of the positions
pub read_block-requires-clause-paired : goal.read_block-requires-clause-paired
read_block-requires-clause-paired g c =
    ap (map (λ (channel : ChannelRead). channel.position)) c.loop-from.invariant.read
    ∙ (positions_stay c.args.size c.args.run.now 0 c.loop-from.from c.args.channels.now ∙ c.requires.paired)

-- one more block
pub loop-from-preserved : goal.loop-from-preserved
loop-from-preserved g c =
    let size = c.args.size in
    let run = c.args.run.now in
    let start = c.loop-from.from in
    let end = start + c.min.result in
    record {
      within = omega arith;
      good = c.in_ok-read_block.ensures.value;
      read = c.in_ok-read_block.ensures.read
          ∙ (ap (map (read_on size run start end)) c.loop-from.invariant.read
          ∙ all_read_further size run start end (omega arith) c.args.channels.now);
    }
