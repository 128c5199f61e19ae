-- What the lines of a text that says a configuration were read as, one after another.
use Rattle.std.proofs.Common.{◌≡◌, ◌∙◌, ap, ℕ, ℤ, Option, List, Result, Ok}
use Rattle.std.specs.Prelude.{◌==◌}
use Rattle.pq_words.specs.FirstFault.{◌>>=◌}
use Rattle.pq_words.specs.Text.{Text}
use Rattle.pq_time.specs.Moment.{utc_of}
use Rattle.comtrade_cfg.specs.declared.cfg.Analogue.{Analogue}
use Rattle.comtrade_cfg.specs.declared.cfg.StatusLine.{StatusLine}
use Rattle.comtrade_cfg.specs.declared.cfg.Zone.{Zone}
use Rattle.comtrade_cfg.specs.declared.cfg.FileType.{FileType}
use Rattle.comtrade_cfg.specs.declared.head_lines.Station.{Station}
use Rattle.comtrade_cfg.specs.declared.head_lines.ChannelCounts.{ChannelCounts}
use Rattle.comtrade_cfg.specs.declared.sampling_lines.Sampling.{Sampling}
use Rattle.comtrade_cfg.specs.Configuration.{Configuration}
use Rattle.cfg_fields.specs.Fields.{Ahead, on_line, only_blank_lines}
use Rattle.cfg_fields.proofs.ReadingLaws.{from_bind, same_ok}
use Rattle.comtrade_cfg.specs.CfgText.{configuration_ahead, lines_behind, channel_lines, station_line, counts_line, analogue_line, status_line, frequency_line, rates_line, sampling_line, stamp_line, file_type_line, timemult_line, zone_lines, offset_of}

-- what each line was read as, and what then lay ahead
pub record LinesRead (start : Ahead) (c : Configuration) : Type 0 where
  pub station : Station × Ahead
  pub counts : ChannelCounts × Ahead
  pub analogue : List Analogue × Ahead
  pub status : List StatusLine × Ahead
  pub lf : ℕ × Ahead
  pub rates : ℕ × Ahead
  pub sampling : Sampling × Ahead
  pub first : ℤ × Ahead
  pub trigger : ℤ × Ahead
  pub file_type : FileType × Ahead
  pub timemult : Text × Ahead
  pub zone : Option Zone × Ahead
  pub station_is : on_line station_line start ≡ Ok station
  pub counts_is : on_line counts_line station.1 ≡ Ok counts
  pub analogue_is : channel_lines analogue_line 1 counts.0.analogue counts.1 ≡ Ok analogue
  pub status_is : channel_lines status_line 1 counts.0.status analogue.1 ≡ Ok status
  pub lf_is : on_line frequency_line status.1 ≡ Ok lf
  pub rates_is : on_line rates_line lf.1 ≡ Ok rates
  pub sampling_is : on_line (sampling_line lf.0) rates.1 ≡ Ok sampling
  pub first_is : on_line stamp_line sampling.1 ≡ Ok first
  pub trigger_is : on_line stamp_line first.1 ≡ Ok trigger
  pub file_type_is : on_line file_type_line trigger.1 ≡ Ok file_type
  pub timemult_is : on_line timemult_line file_type.1 ≡ Ok timemult
  pub zone_is : zone_lines (station.0.revision == 2013) timemult.1 ≡ Ok zone
  pub ended_is : only_blank_lines zone.1.number zone.1.lines ≡ Ok tt
  pub is : record {
    station = station.0.station;
    device = station.0.device;
    revision = station.0.revision;
    analogue = analogue.0;
    status = status.0;
    lf = lf.0;
    rate = sampling.0.rate;
    endsamp = sampling.0.endsamp;
    first = utc_of first.0 (offset_of zone.0);
    trigger = utc_of trigger.0 (offset_of zone.0);
    file_type = file_type.0;
    timemult = timemult.0;
    zone = zone.0;
  } ≡ c

pub lines_read : (start : Ahead) (c : Configuration) → configuration_ahead start ≡ Ok c → LinesRead start c
unfolding configuration_ahead lines_behind
lines_read start c e =
    from_bind _ _ c e (λ station station_is after_station.
    from_bind _ _ c after_station (λ counts counts_is after_counts.
    from_bind _ _ c after_counts (λ analogue analogue_is after_analogue.
    from_bind _ _ c after_analogue (λ status status_is after_status.
    from_bind _ _ c after_status (λ lf lf_is after_lf.
    from_bind _ _ c after_lf (λ rates rates_is after_rates.
    from_bind _ _ c after_rates (λ sampling sampling_is after_sampling.
    from_bind _ _ c after_sampling (λ first first_is after_first.
    from_bind _ _ c after_first (λ trigger trigger_is after_trigger.
    from_bind _ _ c after_trigger (λ file_type file_type_is after_file_type.
    from_bind _ _ c after_file_type (λ timemult timemult_is after_timemult.
    from_bind _ _ c after_timemult (λ zone zone_is after_zone.
    from_bind _ _ c after_zone (λ ended ended_is after_ended.
    record {
      station = station;
      counts = counts;
      analogue = analogue;
      status = status;
      lf = lf;
      rates = rates;
      sampling = sampling;
      first = first;
      trigger = trigger;
      file_type = file_type;
      timemult = timemult;
      zone = zone;
      station_is = station_is;
      counts_is = counts_is;
      analogue_is = analogue_is;
      status_is =
          status_is;
      lf_is = lf_is;
      rates_is = rates_is;
      sampling_is = sampling_is;
      first_is = first_is;
      trigger_is = trigger_is;
      file_type_is = file_type_is;
      timemult_is = timemult_is;
      zone_is = zone_is;
      ended_is = ended_is;
      is = same_ok after_ended;
    })))))))))))))

-- a step that finds no fault, and what comes after it
pub then_ok : {A B E : Type 0} (r : Result A E) (f : A → Result B E) (x : A) (y : Result B E) → r ≡ Ok x → f x
    ≡ y → (r >>= f) ≡ y
then_ok r f x y e g = ap (λ r. r >>= f) e ∙ g

-- lines that were read one after another say the configuration
pub all_read : (start : Ahead) (c : Configuration) → LinesRead start c → configuration_ahead start ≡ Ok c
unfolding configuration_ahead lines_behind
all_read start c r =
    then_ok (on_line station_line start) _ r.station _ r.station_is
    (then_ok (on_line counts_line r.station.1) _ r.counts _ r.counts_is
    (then_ok (channel_lines analogue_line 1 r.counts.0.analogue r.counts.1) _ r.analogue _ r.analogue_is
    (then_ok (channel_lines status_line 1 r.counts.0.status r.analogue.1) _ r.status _ r.status_is
    (then_ok (on_line frequency_line r.status.1) _ r.lf _ r.lf_is
    (then_ok (on_line rates_line r.lf.1) _ r.rates _ r.rates_is
    (then_ok (on_line (sampling_line r.lf.0) r.rates.1) _ r.sampling _ r.sampling_is
    (then_ok (on_line stamp_line r.sampling.1) _ r.first _ r.first_is
    (then_ok (on_line stamp_line r.first.1) _ r.trigger _ r.trigger_is
    (then_ok (on_line file_type_line r.trigger.1) _ r.file_type _ r.file_type_is
    (then_ok (on_line timemult_line r.file_type.1) _ r.timemult _ r.timemult_is
    (then_ok (zone_lines (r.station.0.revision == 2013) r.timemult.1) _ r.zone _ r.zone_is
    (then_ok (only_blank_lines r.zone.1.number r.zone.1.lines) _ tt _ r.ended_is (ap Ok r.is)))))))))))))
