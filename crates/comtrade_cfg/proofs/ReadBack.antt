-- A canonical text says the configuration that it is printed of.
use Rattle.std.proofs.Common.{◌≡◌, ℕ, ◌+◌, ◌==◌, cond, ℤ, List, [], ◌∷◌, ◌++◌, map, length, Ok, Err, refl, ap, ◌∙◌, arith}
use Rattle.std.specs.Prelude.{decimal}
use Rattle.std.specs.List.{AllByRecursion}
use Rattle.std.specs.Str.Lines.{lines}
use Rattle.std.proofs.lemmas.Bool.{le-leb}
use Rattle.jiff_core.proofs.SignedLemmas.{signed_arith}
use Rattle.pq_words.specs.Text.{Text}
use Rattle.pq_time.specs.Moment.{utc_of, written_of}
use Rattle.cfg_fields.specs.declared.fault.CfgFault.TheVariants as fault
use Rattle.cfg_fields.specs.declared.fault.Quantity.TheVariants as quantity
use Rattle.comtrade_cfg.specs.Configuration.{Configuration}
use Rattle.cfg_fields.specs.Fields.{ahead_of}
use Rattle.comtrade_cfg.specs.CfgText.{configuration_of, configuration_ahead, analogue_line, status_line, offset_of}
use Rattle.comtrade_cfg.specs.Canonical.{behind_rows, row_of, rate_text, stamp_text, date_text, time_text, file_type_text, analogue_fields, status_fields, numbered_rows, zone_rows, canonical_lines, canonical_text, ReadsBack}
use Rattle.pq_time.specs.Printed.{date_shown, time_shown}
use Rattle.comtrade_cfg.proofs.LinesRead.{all_read}
use Rattle.comtrade_cfg.proofs.ReadBackText.{lines_back, row_free}
use Rattle.cfg_fields.proofs.FieldTexts.{IsFree}
use Rattle.comtrade_cfg.proofs.ReadBackFacts.{IsGood, configuration_good, IsGoodAnalogue, IsGoodStatus}
use Rattle.comtrade_cfg.proofs.ReadBackLines.{small_frequency, decimal_field_of, station_is_fields, station_back, counts_are_fields, counts_back, channels_back, channels_free, analogue_are_fields, analogue_value, status_are_fields, status_value, frequency_back, rates_back, sampling_are_fields, sampling_back, stamp_are_fields, stamp_back, file_type_is_field, file_type_back, timemult_back, zone_back, zone_free}

utc_again : (utc minutes : ℤ) → utc_of (written_of utc minutes) minutes ≡ utc
utc_again utc minutes = omega (arith, signed_arith)

-- each of them is read
whole : (c : Configuration) → IsGood c → configuration_ahead (record {
  number = 1;
  lines = canonical_lines c;
})
    ≡ Ok c
whole c g =
    let b = g.bounds in
    let tail : List Text = behind_rows c in
    let status_lines : List Text = numbered_rows 1 (map status_fields c.status) ++ tail in
    let analogue_lines : List Text = numbered_rows 1 (map analogue_fields c.analogue) ++ status_lines in
    let station = station_back 1 c.station c.device c.revision
    (row_of (decimal (length c.analogue + length c.status) ∷ (decimal (length c.analogue) ++ 65 ∷ []) ∷
    (decimal (length c.status) ++ 68 ∷ []) ∷ []) ∷ analogue_lines) g.station g.device g.revision in
    let counts = counts_back 2 (length c.analogue) (length c.status) analogue_lines b.analogue b.status in
    let analogue = channels_back analogue_line analogue_fields IsGoodAnalogue analogue_are_fields
    analogue_value 1 3 c.analogue status_lines g.analogue (omega (arith, b.analogue)) in
    let status = channels_back status_line status_fields IsGoodStatus status_are_fields status_value 1
    analogue.0 c.status tail g.status (omega (arith, b.status)) in
    let n : ℕ = status.0 in
    let first : ℤ = written_of c.first (offset_of c.zone) in
    let trigger : ℤ = written_of c.trigger (offset_of c.zone) in
    let zone = zone_back (c.revision == 2013) (n + 1 + 1 + 1 + 1 + 1 + 1 + 1) c.zone g.zone in
    let timemult_rest : List Text = zone_rows c.zone in
    let type_rest : List Text = c.timemult ∷ timemult_rest in
    let trigger_rest : List Text = file_type_text c.file_type ∷ type_rest in
    let first_rest : List Text = stamp_text trigger ∷ trigger_rest in
    let sampling_rest : List Text = stamp_text first ∷ first_rest in
    let rates_rest : List Text = row_of (rate_text c.rate ∷ decimal c.endsamp ∷ []) ∷ sampling_rest in
    let lf_rest : List Text = decimal 1 ∷ rates_rest in
    all_read (record { number = 1; lines = canonical_lines c }) c (record {
      station = (
        record { station = c.station; device = c.device; revision = c.revision },
        record {
          number = 2;
          lines = row_of (decimal (length c.analogue + length c.status) ∷
              (decimal (length c.analogue) ++ 65 ∷ []) ∷ (decimal (length c.status) ++ 68 ∷ []) ∷ []) ∷
              analogue_lines;
        },
      );
      counts = (
        record { analogue = length c.analogue; status = length c.status },
        record { number = 3; lines = analogue_lines },
      );
      analogue = (c.analogue, record { number = analogue.0; lines = status_lines });
      status = (c.status, record { number = n; lines = tail });
      lf = (c.lf, record { number = n + 1; lines = lf_rest });
      rates = (1, record { number = n + 1 + 1; lines = rates_rest });
      sampling = (
        record { rate = c.rate; endsamp = c.endsamp },
        record { number = n + 1 + 1 + 1; lines = sampling_rest },
      );
      first = (first, record { number = n + 1 + 1 + 1 + 1; lines = first_rest });
      trigger = (trigger, record { number = n + 1 + 1 + 1 + 1 + 1; lines = trigger_rest });
      file_type = (c.file_type, record { number = n + 1 + 1 + 1 + 1 + 1 + 1; lines = type_rest });
      timemult = (c.timemult, record { number = n + 1 + 1 + 1 + 1 + 1 + 1 + 1; lines = timemult_rest });
      zone = (c.zone, record { number = zone.0; lines = [] });
      station_is = station;
      counts_is = counts;
      analogue_is = analogue.1;
      status_is = status.1;
      lf_is = frequency_back n c.lf lf_rest b.lf;
      rates_is = rates_back (n + 1) rates_rest;
      sampling_is = sampling_back c.lf (n + 1 + 1) c.rate c.endsamp sampling_rest b.slowest b.fastest
          b.endsamp;
      first_is = stamp_back (n + 1 + 1 + 1) first first_rest g.first;
      trigger_is = stamp_back (n + 1 + 1 + 1 + 1) trigger trigger_rest g.trigger;
      file_type_is = file_type_back (n + 1 + 1 + 1 + 1 + 1) c.file_type type_rest;
      timemult_is = timemult_back (n + 1 + 1 + 1 + 1 + 1 + 1) c.timemult timemult_rest g.timemult;
      zone_is = zone.1;
      ended_is = refl;
      is = same c;
    })
  where
    same : (c : Configuration) → record {
      station = c.station;
      device = c.device;
      revision = c.revision;
      analogue = c.analogue;
      status = c.status;
      lf = c.lf;
      rate = c.rate;
      endsamp = c.endsamp;
      first = utc_of (written_of c.first (offset_of c.zone)) (offset_of c.zone);
      trigger = utc_of (written_of c.trigger (offset_of c.zone)) (offset_of c.zone);
      file_type = c.file_type;
      timemult = c.timemult;
      zone = c.zone;
    } ≡ c
    same c = λ i. record {
      station = c.station;
      device = c.device;
      revision = c.revision;
      analogue = c.analogue;
      status = c.status;
      lf = c.lf;
      rate = c.rate;
      endsamp = c.endsamp;
      first = utc_again c.first (offset_of c.zone) i;
      trigger = utc_again c.trigger (offset_of c.zone) i;
      file_type = c.file_type;
      timemult = c.timemult;
      zone = c.zone;
    }

-- no line feed stands in a line
lines_free : (c : Configuration) → IsGood c → AllByRecursion (IsFree 10) (canonical_lines c)
lines_free c g =
    let b = g.bounds in
    let first : ℤ = written_of c.first (offset_of c.zone) in
    let trigger : ℤ = written_of c.trigger (offset_of c.zone) in
    let tail : AllByRecursion (IsFree 10) (behind_rows c) = (
      row_free (decimal c.lf) [] (decimal_field_of c.lf (small_frequency c.lf b.lf), tt),
      (
        row_free (decimal 1) [] (decimal_field_of 1 (omega arith), tt),
        (
          row_free (rate_text c.rate) (decimal c.endsamp ∷ [])
              (sampling_are_fields c.rate c.endsamp b.fastest b.endsamp),
          (
            row_free (date_text (date_shown first)) (time_text (time_shown first) ∷ [])
                (stamp_are_fields first),
            (
              row_free (date_text (date_shown trigger)) (time_text (time_shown trigger) ∷ [])
                  (stamp_are_fields trigger),
              (
                row_free (file_type_text c.file_type) [] (file_type_is_field c.file_type),
                (row_free c.timemult [] (g.timemult.field, tt), zone_free (c.revision == 2013) c.zone g.zone),
              ),
            ),
          ),
        ),
      ),
    ) in
    let status = channels_free status_line status_fields IsGoodStatus status_are_fields status_value 1
    c.status (behind_rows c) g.status (omega (arith, b.status)) tail in
    let analogue = channels_free analogue_line analogue_fields IsGoodAnalogue analogue_are_fields
    analogue_value 1 c.analogue (numbered_rows 1 (map status_fields c.status) ++ behind_rows c) g.analogue
    (omega (arith, b.analogue)) status in (
      row_free c.station (c.device ∷ decimal c.revision ∷ [])
          (station_is_fields c.station c.device c.revision g.station g.device g.revision),
      (
        row_free (decimal (length c.analogue + length c.status))
            ((decimal (length c.analogue) ++ 65 ∷ []) ∷ (decimal (length c.status) ++ 68 ∷ []) ∷ [])
            (counts_are_fields (length c.analogue) (length c.status) b.analogue b.status),
        analogue,
      ),
    )

-- the law of printing
pub reads_back : ReadsBack
unfolding canonical_text configuration_of
reads_back c says few =
    let g = configuration_good c says in
    let text : lines (canonical_text c) ≡ canonical_lines c = lines_back (canonical_lines c)
    (lines_free c g) in
    ap (λ b. cond b (configuration_ahead (ahead_of (canonical_text c)))
    (Err (fault.Limit quantity.CfgBytes 0))) (le-leb (length (canonical_text c)) 1048576 few)
    ∙ ap (λ ls. configuration_ahead (record { number = 1; lines = ls })) text
    ∙ whole c g
