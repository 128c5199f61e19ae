-- What was read is in the grammar.
use Rattle.std.proofs.Common.{◌≡◌, ℕ, ◌+◌, List, length, ℤ, Ok, refl, sym, subst, ap, ◌∙◌, arith}
use Rattle.std.specs.Str.Lines.{lines}
use Rattle.jiff_core.proofs.SignedLemmas.{signed_arith}
use Rattle.pq_words.specs.Text.{Text}
use Rattle.pq_time.specs.Moment.{utc_of, written_of}
use Rattle.comtrade_cfg.specs.Configuration.{Configuration}
use Rattle.cfg_fields.specs.Fields.{Ahead, ahead_of}
use Rattle.comtrade_cfg.specs.CfgText.{configuration_of, station_line, counts_line, analogue_line, status_line, frequency_line, rates_line, sampling_line, stamp_line, file_type_line, timemult_line, offset_of}
use Rattle.comtrade_cfg.specs.Grammar.{fields_at, after_channels, last_line, IsStampLine, HasZoneLines, LinesSay, IsCfgText}
use Rattle.comtrade_cfg.proofs.LinesRead.{LinesRead}
use Rattle.comtrade_cfg.proofs.ConfigurationBounds.{channels_read, from_text}
use Rattle.comtrade_cfg.proofs.GrammarPlaces.{place, line_found, channels_found, blank_found}
use Rattle.comtrade_cfg.proofs.GrammarLines.{station_found, counts_found, analogue_found, status_found, frequency_line_found, rates_found, sampling_found, stamp_found, file_type_found, timemult_found}
use Rattle.comtrade_cfg.proofs.GrammarZone.{zone_found}

-- the offset is taken away and added again
written_again : (written minutes : ℤ) → written ≡ written_of (utc_of written minutes) minutes
written_again written minutes = omega (arith, signed_arith)

-- the configuration of what each line gave
abbrev said : (a : Ahead) (c : Configuration) → LinesRead a c → Configuration
said a c r = record {
  station = r.station.0.station;
  device = r.station.0.device;
  revision = r.station.0.revision;
  analogue = r.analogue.0;
  status = r.status.0;
  lf = r.lf.0;
  rate = r.sampling.0.rate;
  endsamp = r.sampling.0.endsamp;
  first = utc_of r.first.0 (offset_of r.zone.0);
  trigger = utc_of r.trigger.0 (offset_of r.zone.0);
  file_type = r.file_type.0;
  timemult = r.timemult.0;
  zone = r.zone.0;
}

-- the lines that were read say what was read
lines_found : (text : List Text) (a : Ahead) (c : Configuration) → a ≡ place text 0 → LinesRead a c →
    LinesSay text c
lines_found text a c s r =
    let d : Configuration = said a c r in
    let na : length r.analogue.0 ≡ r.counts.0.analogue =
    channels_read analogue_line 1 r.counts.0.analogue r.counts.1 r.analogue r.analogue_is in
    let nd : length r.status.0 ≡ r.counts.0.status =
    channels_read status_line 1 r.counts.0.status r.analogue.1 r.status r.status_is in
    let i : ℕ = 2 + length r.analogue.0 in
    let j : ℕ = 2 + length r.analogue.0 + length r.status.0 in
    let k : ℕ = after_channels d in
    let station = line_found station_line text 0 1 a r.station refl s r.station_is in
    let counts = line_found counts_line text 1 2 r.station.1 r.counts refl station.1 r.counts_is in
    let analogue = channels_found analogue_line text 1 r.counts.0.analogue 2 i r.counts.1 r.analogue
    (omega (arith, na)) counts.1 r.analogue_is in
    let status = channels_found status_line text 1 r.counts.0.status i j r.analogue.1 r.status
    (omega (arith, nd)) analogue.1 r.status_is in
    let lf = line_found frequency_line text j k r.status.1 r.lf (omega arith) status.1 r.lf_is in
    let rates = line_found rates_line text k (k + 1) r.lf.1 r.rates refl lf.1 r.rates_is in
    let sampling = line_found (sampling_line d.lf) text (k + 1) (k + 2) r.rates.1 r.sampling (omega arith)
    rates.1 r.sampling_is in
    let first = line_found stamp_line text (k + 2) (k + 3) r.sampling.1 r.first (omega arith) sampling.1
    r.first_is in
    let trigger = line_found stamp_line text (k + 3) (k + 4) r.first.1 r.trigger (omega arith) first.1
    r.trigger_is in
    let file_type = line_found file_type_line text (k + 4) (k + 5) r.trigger.1 r.file_type (omega arith)
    trigger.1 r.file_type_is in
    let timemult = line_found timemult_line text (k + 5) (k + 6) r.file_type.1 r.timemult (omega arith)
    file_type.1 r.timemult_is in
    let head = station_found d 1 (fields_at text 1) station.0 in
    let zone = zone_found text d.revision (k + 6) (k + 7) r.timemult.1 r.zone (omega arith) head.known
    timemult.1 r.zone_is in
    let eight : k + 7 + 1 ≡ k + 8 = omega arith in
    let offset : ℤ = offset_of r.zone.0 in
    subst (LinesSay text) r.is (record {
      station = head;
      counts = counts_found 2 (fields_at text 2) (length r.analogue.0) (length r.status.0)
          (counts.0 ∙ ap (λ (n : ℕ). Ok (record { analogue = n; status = r.counts.0.status })) (sym na)
          ∙ ap (λ (n : ℕ). Ok (record { analogue = length r.analogue.0; status = n })) (sym nd));
      analogue = λ n ch there. analogue_found (n + 1) (n + 3) (fields_at text (n + 3)) ch
          (analogue.0 n (n + 1) (n + 3) ch there (omega arith) (omega arith));
      status = λ n ch there. status_found (n + 1) (n + 3 + length r.analogue.0)
          (fields_at text (n + 3 + length r.analogue.0)) ch
          (status.0 n (n + 1) (n + 3 + length r.analogue.0) ch there (omega arith) (omega arith));
      frequency = frequency_line_found k (fields_at text k) r.lf.0 lf.0;
      rates = rates_found (k + 1) (fields_at text (k + 1)) r.rates.0 rates.0;
      sampling = sampling_found d (k + 2) (fields_at text (k + 2)) sampling.0;
      first = subst (IsStampLine (fields_at text (k + 3))) (written_again r.first.0 offset)
          (stamp_found (k + 3) (fields_at text (k + 3)) r.first.0 first.0);
      trigger = subst (IsStampLine (fields_at text (k + 4))) (written_again r.trigger.0 offset)
          (stamp_found (k + 4) (fields_at text (k + 4)) r.trigger.0 trigger.0);
      file_type = file_type_found (k + 5) (fields_at text (k + 5)) r.file_type.0 file_type.0;
      timemult = timemult_found (k + 6) (fields_at text (k + 6)) r.timemult.0 timemult.0;
      zone = subst (λ (l : ℕ). HasZoneLines d.revision (fields_at text (k + 7)) (fields_at text l) r.zone.0)
          eight zone.0;
      blank = blank_found text (last_line d) r.zone.1 tt zone.1 r.ended_is;
    })

-- what is read is in the grammar
pub found : (text : Text) (c : Configuration) → configuration_of text ≡ Ok c → IsCfgText text c
found text c e = let read = from_text text c e in record
    { bytes = read.0; says = lines_found (lines text) (ahead_of text) c refl read.1 }
