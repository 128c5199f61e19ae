use Rattle.std.proofs.Common.{◌≡◌, length, arith, rules}
use Rattle.comtrade_cfg.proofs.ConfigurationBounds.{configuration_bounded}
use Rattle.comtrade_cfg.specs.Configuration.{cfg_view}
use Rattle.comtrade_dat.proofs.dat_reader.record_size.Goals as goal

pub overflow_add-result : goal.overflow_add-result
overflow_add-result c =
    let bounds = configuration_bounded (cfg_view c.args.cfg.now) c.requires in
    let analogue : c.len.result ≡ length c.args.cfg.now.analogue.items = search rules in
    omega (arith, analogue, bounds.analogue)

pub overflow_add-result-2 : goal.overflow_add-result-2
overflow_add-result-2 c =
    let bounds = configuration_bounded (cfg_view c.args.cfg.now) c.requires in
    let analogue : c.len.result ≡ length c.args.cfg.now.analogue.items = search rules in
    let status : c.len-2.result ≡ length c.args.cfg.now.status.items = search rules in
    omega (arith, analogue, status, bounds.analogue, bounds.status)

pub returns-clause-small : goal.returns-clause-small
returns-clause-small c =
    let bounds = configuration_bounded (cfg_view c.args.cfg.now) c.requires in
    let analogue : c.len.result ≡ length c.args.cfg.now.analogue.items = search rules in
    let status : c.len-2.result ≡ length c.args.cfg.now.status.items = search rules in
    omega (arith, analogue, status, bounds.analogue, bounds.status)
