use Rattle.std.proofs.Common.{◌≡◌, ◌++◌, length, sym, ap, ◌∙◌, arith}
use Rattle.comtrade_cfg.specs.Configuration.{Configuration, cfg_view}
use Rattle.comtrade_cfg.specs.Canonical.{analogue_rows, counts_row, ended, form_rows, lines_text, sampling_rows, stamp_rows, station_row, status_rows, zone_rows}
use Rattle.comtrade_cfg.proofs.ConfigurationBounds.{configuration_bounded}
use Rattle.comtrade_cfg.proofs.PrintLemmas.{canonical_parts, eight_appended}
use Rattle.comtrade_cfg.proofs.print.canonical.Goals as goal

-- what some text says is bounded
pub push_counts-requires-clause-analogue : goal.push_counts-requires-clause-analogue
push_counts-requires-clause-analogue c = let b = configuration_bounded (cfg_view c.args.cfg.now) c.requires in
    omega (arith, b.analogue)

pub push_counts-requires-clause-status : goal.push_counts-requires-clause-status
push_counts-requires-clause-status c = let b = configuration_bounded (cfg_view c.args.cfg.now) c.requires in
    omega (arith, b.status)

pub push_analogue-requires : goal.push_analogue-requires
push_analogue-requires c = let b = configuration_bounded (cfg_view c.args.cfg.now) c.requires in
    omega (arith, b.analogue, ap length c.deref.ensures.value)

pub push_status-requires : goal.push_status-requires
push_status-requires c = let b = configuration_bounded (cfg_view c.args.cfg.now) c.requires in
    omega (arith, b.status, ap length c.deref-2.ensures.value)

pub push_stamps-requires-clause-first : goal.push_stamps-requires-clause-first
push_stamps-requires-clause-first c = (configuration_bounded (cfg_view c.args.cfg.now) c.requires).first

pub push_stamps-requires-clause-trigger : goal.push_stamps-requires-clause-trigger
push_stamps-requires-clause-trigger c = (configuration_bounded (cfg_view c.args.cfg.now) c.requires).trigger

pub push_stamps-requires-clause-zone : goal.push_stamps-requires-clause-zone
push_stamps-requires-clause-zone c = (configuration_bounded (cfg_view c.args.cfg.now) c.requires).offset

pub push_zone-requires : goal.push_zone-requires
push_zone-requires c = (configuration_bounded (cfg_view c.args.cfg.now) c.requires).quality

-- one part after another
pub returns : goal.returns
returns c =
    let v : Configuration = cfg_view c.args.cfg.now in
    let some : c.len.result ≡ length v.analogue = omega (arith, c.len.ensures, c.args.cfg.now.analogue.ok.0)
    in
    let others : c.len-2.result ≡ length v.status = omega (arith, c.len-2.ensures, c.args.cfg.now.status.ok.0)
    in
    let counts = c.in_ok-push_counts.ensures ∙ ap (λ n. c.push_station.new.text.items
    ++ ended (counts_row n c.len-2.result)) some ∙ ap (λ n. c.push_station.new.text.items
    ++ ended (counts_row (length v.analogue) n)) others in
    let analogue = c.in_ok-push_analogue.ensures ∙ ap (λ z. c.push_counts.new.text.items ++ lines_text
    (analogue_rows z))
    c.deref.ensures.value in
    let status = c.in_ok-push_status.ensures ∙ ap (λ z. c.push_analogue.new.text.items ++ lines_text
    (status_rows z))
    c.deref-2.ensures.value in
    eight_appended (ended (station_row v)) (ended (counts_row (length v.analogue) (length v.status)))
    (lines_text (analogue_rows v.analogue)) (lines_text (status_rows v.status)) (lines_text (sampling_rows v))
    (lines_text (stamp_rows v)) (lines_text (form_rows v)) (lines_text (zone_rows v.zone))
    c.new-text.result.items c.push_station.new.text.items c.push_counts.new.text.items
    c.push_analogue.new.text.items c.push_status.new.text.items c.push_sampling.new.text.items
    c.push_stamps.new.text.items c.push_form.new.text.items c.push_zone.new.text.items
    c.new-text.ensures.items c.in_ok-push_station.ensures counts analogue status c.in_ok-push_sampling.ensures
    c.in_ok-push_stamps.ensures c.in_ok-push_form.ensures c.in_ok-push_zone.ensures
    ∙ sym (canonical_parts v)
