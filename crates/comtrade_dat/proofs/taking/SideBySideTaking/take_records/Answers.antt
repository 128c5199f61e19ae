use Rattle.std.proofs.Common.{◌≡◌, length, arith}
use Rattle.std.proofs.lemmas.Bool.{not-true}
use Rattle.comtrade_dat.proofs.ChannelLemmas.{all_taken}
use Rattle.comtrade_dat.proofs.taking.SideBySideTaking.take_records.Goals as goal

-- no channel stopped
pub returns : goal.returns
returns g c = λ all.
    let same : length c.keep_records.new.channels ≡ length c.args.channels.now = omega arith in
    all_taken c.args.size c.args.run.now c.args.start c.args.end c.args.channels.now
    c.keep_records.new.channels same c.keep_records.ensures
    (c.have_stopped.ensures (not-true c.have_stopped.result all))
