use Rattle.std.proofs.Common.{[]}
use Rattle.comtrade_cfg.specs.Configuration.{cfg_view}
use Rattle.comtrade_cfg.specs.Selecting.{selection_view}
use Rattle.comtrade_dat.proofs.reading.read_dat.Goals as goal

-- the reader was fed the whole dat
pub returns : goal.returns
returns c =
    let cfg = cfg_view c.args.cfg.now in
    let selected = selection_view c.args.selection.now in
    record {
      value = c.finish.ensures.value cfg selected c.args.bytes.now
          (c.feed.ensures.fed cfg selected [] c.in_ok-reader.ensures.fed);
    }
