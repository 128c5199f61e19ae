use Rattle.std.proofs.Common.{◌∙◌, ap}
use Rattle.std.proofs.lemmas.List.{set-get_or}
use Rattle.std.specs.Prelude.{slice_set}
use Rattle.comtrade_dat.proofs.decoded.make_room.Goals as goal

pub loop-channel-preserved : goal.loop-channel-preserved
loop-channel-preserved c =
    let i = c.loop-channel.channel-index in
    let channels = c.loop-channel.channels in
    ap (slice_set channels i) c.make_room.ensures
    ∙ (set-get_or channels i c.channel-item.result ∙ c.loop-channel.invariant)
