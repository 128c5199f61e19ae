use Rattle.std.proofs.Common.{◌∙◌, ap, map, refl, subst, sym, length, ◌<◌}
use Rattle.std.specs.List.{All}
use Rattle.comtrade_cfg.proofs.SelectionLaws.{selection_good}
use Rattle.comtrade_cfg.specs.Configuration.{cfg_view}
use Rattle.comtrade_cfg.specs.Selecting.{AreWithinLimit, coefficients_at, selection_view}
use Rattle.comtrade_dat.proofs.ReaderLemmas.{opened}
use Rattle.comtrade_dat.specs.Channel.{unread}
use Rattle.comtrade_dat.proofs.dat_reader.DatReader.open.Goals as goal

-- the selected channels are there, and within the limit
pub unread_channels-requires-clause-there : goal.unread_channels-requires-clause-there
unread_channels-requires-clause-there c =
    let good = selection_good (cfg_view c.args.cfg.now) (selection_view c.args.selection.now)
    c.requires.selected in
    subst (All (λ p. p < length c.args.cfg.now.analogue.items)) (sym c.as_slice.ensures.value) good.there

pub unread_channels-requires-clause-limit : goal.unread_channels-requires-clause-limit
unread_channels-requires-clause-limit c =
    let good = selection_good (cfg_view c.args.cfg.now) (selection_view c.args.selection.now)
    c.requires.selected in
    subst (All (λ p. AreWithinLimit (coefficients_at (cfg_view c.args.cfg.now) p)))
    (sym c.as_slice.ensures.value) good.within

-- nothing was fed
pub invariant_of-result : goal.invariant_of-result
invariant_of-result c =
    let cfg = cfg_view c.args.cfg.now in
    let selected = selection_view c.args.selection.now in
    record {
      said = c.requires.said;
      chosen = c.requires.selected;
      fed = _;
      read = opened cfg selected _
          (c.in_ok-channels.ensures.value ∙ ap (map (unread cfg)) c.as_slice.ensures.value) refl
          c.new.ensures.items refl refl;
    }

pub returns-clause-fed : goal.returns-clause-fed
returns-clause-fed c =
    let cfg = cfg_view c.args.cfg.now in
    opened cfg (selection_view c.args.selection.now) _
    (c.in_ok-channels.ensures.value ∙ ap (map (unread cfg)) c.as_slice.ensures.value) refl
    c.new.ensures.items refl refl
