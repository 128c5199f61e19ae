use Rattle.std.proofs.Common.{◌≡◌, ◌∙◌, suc, ◌+◌, ◌<◌, ◌≤◌, [], ◌∷◌, ◌++◌, get_or, length, map, take, drop, sym, ap, subst, arith}
use Rattle.std.proofs.Math.Seq.{take-suc-set}
use Rattle.std.proofs.lemmas.List.Edits.{map_over_more}
use Rattle.std.proofs.lemmas.List.{append-nil, drop_all, take_all}
use Rattle.std.proofs.lemmas.List.Elements.{All-push}
use Rattle.std.specs.List.{All}
use Rattle.std.specs.Prelude.{slice_set}
use Rattle.comtrade_dat.specs.Channel.{ChannelRead, read_on}
use Rattle.comtrade_dat.specs.Run.{HaveCounts}
use Rattle.comtrade_dat.proofs.taking.OneThreadTaking.take_records.Goals as goal

-- one more channel is read on
pub loop-channel-preserved : goal.loop-channel-preserved
loop-channel-preserved c =
    let i = c.loop-channel.channel-index in
    let channels = c.loop-channel.channels in
    let inside : i < length c.args.channels.now = omega arith in
    let read = read_on c.args.size c.args.run.now c.args.start c.args.end in
    let taken = c.take_records.ensures c.if-not-take_records.false in
    let same : c.take_records.new.self ≡ read c.channel-item.result =
    taken.value ∙ ap read (sym c.channel-item.is) in
    let P : ChannelRead → Type 0 = λ channel. HaveCounts c.args.size c.args.run.now c.args.start c.args.end
    channel.position in
    let stays : c.take_records.new.self.position ≡ (get_or channels i c.channel-item.result).position =
    ap (λ (channel : ChannelRead). channel.position) taken.value in
    let here : P c.take_records.new.self =
    subst (HaveCounts c.args.size c.args.run.now c.args.start c.args.end) (sym stays) taken.counted in
    let one : suc i ≡ i + 1 = omega arith in
    let more : take (i + 1) (slice_set channels i c.take_records.new.self)
    ≡ take i channels ++ c.take_records.new.self ∷ [] =
    ap (λ n. take n (slice_set channels i c.take_records.new.self)) (sym one)
    ∙ take-suc-set channels i c.take_records.new.self (omega arith) in
    record {
      read = ap (slice_set channels i) same
          ∙ map_over_more (read_on c.args.size c.args.run.now c.args.start c.args.end) c.args.channels.now
          channels i c.channel-item.result inside c.loop-channel.invariant.read c.channel-item.is;
      counted = subst (All P) (sym more)
          (All-push P (take i channels) c.take_records.new.self c.loop-channel.invariant.counted here);
    }

-- all are read on
pub returns : goal.returns
returns c = λ told.
    let size = c.args.size in
    let run = c.args.run.now in
    let olds = c.args.channels.now in
    let channels = c.loop-channel.channels in
    let i = c.loop-channel.channel-index in
    let read = read_on size run c.args.start c.args.end in
    let all : length olds ≤ i = omega arith in
    let same : length channels ≤ i = omega arith in
    record {
      value = c.loop-channel.invariant.read
          ∙ (ap (λ xs. map read xs ++ drop i olds) (take_all i olds all)
          ∙ (ap (λ xs. map read olds ++ xs) (drop_all i olds all) ∙ append-nil (map read olds)));
      counted = subst
          (All (λ (channel : ChannelRead). HaveCounts size run c.args.start c.args.end channel.position))
          (take_all i channels same) c.loop-channel.invariant.counted;
    }
