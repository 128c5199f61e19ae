use Rattle.std.proofs.Common.{sym, subst, Ok, Err}
use Rattle.comtrade_cfg.proofs.ConfigurationBounds.{configuration_bounded}
use Rattle.comtrade_cfg.specs.Configuration.{Configuration, cfg_view}
use Rattle.comtrade_cfg.specs.Selecting.{Selected, selection_view}
use Rattle.comtrade_dat.proofs.ReaderLemmas.{reader_ends, reading, refused_dat}
use Rattle.comtrade_dat.specs.DatReader.{HasRead}
use Rattle.comtrade_dat.specs.Samples.{Gives, samples_of}
use Rattle.comtrade_dat.proofs.dat_reader.DatReader.finish.Goals as goal

pub end-requires-clause-few : goal.end-requires-clause-few
end-requires-clause-few c =
    (configuration_bounded (cfg_view c.self.inside.cfg.now) c.self.invariant.said).endsamp

pub returns-in_err-decoded-clause-value : goal.returns-in_err-decoded-clause-value
returns-in_err-decoded-clause-value c = λ cfg s fed h.
    let e = c.in_err-decoded.field-0.0 in
    refused_dat cfg s fed c.from_residual.result e c.from_residual.ensures.1
    (reader_ends (cfg_view c.self.inside.cfg.now) (selection_view c.self.inside.selection.now)
    c.record_size.result c.self.inside.progress (Err e) c.record_size.ensures.value
    c.in_err-decoded.ensures.value cfg s fed (subst (HasRead cfg s fed) (sym c.self.view_is) h))

pub recording-requires-clause-whole : goal.recording-requires-clause-whole
recording-requires-clause-whole c =
    let cfg = cfg_view c.self.inside.cfg.now in
    let selected = selection_view c.self.inside.selection.now in (
      c.self.invariant.fed,
      reader_ends cfg selected c.record_size.result c.self.inside.progress (Ok c.in_ok-decoded.decoded)
          c.record_size.ensures.value c.in_ok-decoded.ensures.value cfg selected c.self.invariant.fed
          c.self.invariant.read,
    )

-- the same of whatever it was fed
pub returns-clause-value : goal.returns-clause-value
returns-clause-value c = λ cfg s fed h.
    let said = cfg_view c.self.inside.cfg.now in
    let chosen = selection_view c.self.inside.selection.now in
    let progress = c.self.inside.progress in
    let r = reading said chosen progress in
    let here : HasRead cfg s fed r = subst (HasRead cfg s fed) (sym c.self.view_is) h in
    let own : HasRead said chosen fed r =
    subst (λ (c : Configuration). HasRead c chosen fed r) (sym here.configuration)
    (subst (λ (s : Selected). HasRead cfg s fed r) (sym here.selected) here) in
    let gives : Gives c.recording.result (samples_of said chosen fed) =
    c.recording.ensures fed (reader_ends said chosen c.record_size.result progress
    (Ok c.in_ok-decoded.decoded)
    c.record_size.ensures.value c.in_ok-decoded.ensures.value said chosen fed own) in
    subst (λ (c2 : Configuration). Gives c.recording.result (samples_of c2 s fed)) here.configuration
    (subst (λ (s2 : Selected). Gives c.recording.result (samples_of said s2 fed)) here.selected gives)
