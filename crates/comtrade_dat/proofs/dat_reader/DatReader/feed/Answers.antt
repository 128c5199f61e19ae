use Rattle.std.proofs.Common.{◌++◌, sym, subst}
use Rattle.comtrade_cfg.proofs.ConfigurationBounds.{configuration_bounded}
use Rattle.comtrade_cfg.specs.Configuration.{cfg_view}
use Rattle.comtrade_cfg.specs.Selecting.{selection_view}
use Rattle.comtrade_dat.proofs.ReaderLemmas.{fed_on, layout_of, was_fed}
use Rattle.comtrade_dat.specs.DatReader.{HasRead}
use Rattle.comtrade_dat.proofs.dat_reader.DatReader.feed.Goals as goal

pub feed-requires-clause-layout : goal.feed-requires-clause-layout
feed-requires-clause-layout g c =
    layout_of (cfg_view c.self.inside.cfg.now) (selection_view c.self.inside.selection.now)
    c.record_size-size.result c.as_slice.result.now c.self.invariant.chosen c.as_slice.ensures.value
    c.record_size-size.ensures.least c.record_size-size.ensures.small

pub feed-requires-clause-few : goal.feed-requires-clause-few
feed-requires-clause-few g c =
    (configuration_bounded (cfg_view c.self.inside.cfg.now) c.self.invariant.said).endsamp

pub feed-requires-clause-fed : goal.feed-requires-clause-fed
feed-requires-clause-fed g c =
    was_fed (cfg_view c.self.inside.cfg.now) (selection_view c.self.inside.selection.now)
    c.record_size-size.result c.as_slice.result.now c.self.inside.progress c.self.invariant.fed
    c.record_size-size.ensures.value c.as_slice.ensures.value c.self.invariant.read

pub invariant_of-self : goal.invariant_of-self
invariant_of-self g c =
    let cfg = cfg_view c.self.inside.cfg.now in
    let selected = selection_view c.self.inside.selection.now in
    record {
      said = c.self.invariant.said;
      chosen = c.self.invariant.chosen;
      fed = c.self.invariant.fed ++ c.args.piece.now;
      read = fed_on cfg selected c.record_size-size.result c.as_slice.result.now c.self.inside.progress
          c.feed.new.self c.args.piece.now c.record_size-size.ensures.value c.as_slice.ensures.value
          c.feed.ensures.fed cfg selected c.self.invariant.fed c.self.invariant.read;
    }

pub returns-clause-fed : goal.returns-clause-fed
returns-clause-fed g c = λ cfg s fed h.
    fed_on (cfg_view c.self.inside.cfg.now) (selection_view c.self.inside.selection.now)
    c.record_size-size.result c.as_slice.result.now c.self.inside.progress c.feed.new.self c.args.piece.now
    c.record_size-size.ensures.value c.as_slice.ensures.value c.feed.ensures.fed cfg s fed
    (subst (HasRead cfg s fed) (sym c.self.view_is) h)
