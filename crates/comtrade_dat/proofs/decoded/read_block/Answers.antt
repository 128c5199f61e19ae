use Rattle.std.proofs.Common.{◌∙◌, ◌+◌, ◌*◌, ◌≤◌, ap, map}
use Rattle.std.specs.List.{All}
use Rattle.comtrade_dat.proofs.ChannelLemmas.{of_channels, of_positions, positions_stay}
use Rattle.comtrade_dat.proofs.GoodLemmas.{good_records}
use Rattle.comtrade_dat.specs.Channel.{ChannelRead}
use Rattle.comtrade_dat.specs.Run.{HaveCounts}
use Rattle.comtrade_dat.proofs.decoded.read_block.Goals as goal

-- the channels are those of the positions
pub take_records-requires-clause-room : goal.take_records-requires-clause-room
take_records-requires-clause-room g c =
    of_channels (λ p. 10 + 2 * p ≤ c.args.size) c.args.channels.now c.args.positions.now c.requires.paired
    c.requires.layout.room

-- all are good
pub returns-then-take_records-clause-value : goal.returns-then-take_records-clause-value
returns-then-take_records-clause-value g c =
    let size = c.args.size in
    let positions = c.args.positions.now in
    let run = c.args.run.now in
    let from = c.args.from in
    let end = c.args.end in
    let read = c.take_records.ensures c.if-take_records.true in
    let paired = ap (map (λ (channel : ChannelRead). channel.position)) read.value
    ∙ (positions_stay size run from end c.args.channels.now ∙ c.requires.paired) in
    let counted : All (HaveCounts size run from end) positions =
    of_positions (HaveCounts size run from end) c.take_records.new.channels positions paired read.counted in
    good_records size positions c.args.start run from end c.requires.forward
    (c.are_numbered-are_numbered.ensures c.if-are_numbered.true) counted c.requires.good
