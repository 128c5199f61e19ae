use Rattle.std.proofs.Common.{◌≤◌, length, arith, rules}
use Rattle.comtrade_cfg.specs.Configuration.{cfg_view}
use Rattle.comtrade_cfg.specs.Selecting.{selected_of, wanted_view}
use Rattle.comtrade_cfg.proofs.ConfigurationBounds.{few}
use Rattle.comtrade_cfg.proofs.ValueLemmas.{few_chosen}
use Rattle.comtrade_cfg.proofs.selection.select.Goals as goal

-- a configuration has few channels
pub voltage_channels-requires : goal.voltage_channels-requires
voltage_channels-requires c = rw c.as_slice-channels.ensures.value (few
    (cfg_view c.args.cfg.now) c.requires).0

pub positions_of-requires : goal.positions_of-requires
positions_of-requires c = rw c.as_slice-channels.ensures.value (few (cfg_view c.args.cfg.now) c.requires).0

pub judge_values-requires : goal.judge_values-requires
judge_values-requires c = rw c.as_slice-channels.ensures.value (few (cfg_view c.args.cfg.now) c.requires).0

pub reference_of-requires : goal.reference_of-requires
reference_of-requires c =
    let few_channels : length c.args.cfg.now.analogue.items ≤ 999 =
    (few (cfg_view c.args.cfg.now) c.requires).0 in
    let most = few_chosen c.args.cfg.now.analogue.items c.as_slice-2.result.now in
    rw (c.as_slice-3.ensures.value, c.in_ok-positions.ensures.value, c.as_slice-channels.ensures.value)
    (omega arith)

-- the wanted numbers and the reference select it
pub returns-clause-selected : goal.returns-clause-selected
unfolding selected_of
returns-clause-selected c = (wanted_view c.args.wanted, c.args.reference, search rules)
