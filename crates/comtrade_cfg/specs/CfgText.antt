-- A cfg as a text: its lines in order, the first fault, and the configuration that a good text says (C37.111,
-- configuration file).
use Rattle.std.specs.Prelude.{◌≡◌, ◌≤◌, ℕ, zero, suc, ◌+◌, Bool, true, false, ◌||◌, ◌==◌, nat_le, if◌then◌else◌, List, [], ◌∷◌, length, ℤ, pos, Option, Some, None, Result, Ok, Err, codes}
use Rattle.std.specs.Option.{ForSome, option_map_or}
use Rattle.std.specs.Str.{str_eq_ignore_ascii_case}
use Rattle.std.specs.List.{list_any}
use Rattle.pq_words.specs.Magnitude.{IsWithin}
use Rattle.pq_words.specs.Text.{Text}
use Rattle.pq_words.specs.FirstFault.{◌>>=◌, provided, GivesUnless}
use Rattle.pq_time.specs.Written.{code_of}
use Rattle.pq_time.specs.Moment.{written_moment, utc_of}
use Rattle.cfg_fields.specs.declared.limits.TheConstants.{MOST_CHANNELS}
use Rattle.comtrade_cfg.specs.declared.limits.TheConstants.{MOST_CFG_BYTES}
use Rattle.comtrade_cfg.specs.declared.cfg.Analogue.{Analogue}
use Rattle.comtrade_cfg.specs.declared.cfg.StatusLine.{StatusLine}
use Rattle.comtrade_cfg.specs.declared.cfg.Zone.{Zone}
use Rattle.comtrade_cfg.specs.declared.cfg.FileType.{FileType}
use Rattle.comtrade_cfg.specs.declared.cfg.FileType.TheVariants.{Binary}
use Rattle.comtrade_cfg.specs.declared.cfg.Cfg.{Cfg}
use Rattle.comtrade_cfg.specs.declared.channel_lines.AnalogueFields.{AnalogueFields}
use Rattle.comtrade_cfg.specs.declared.head_lines.Station.{Station}
use Rattle.comtrade_cfg.specs.declared.head_lines.ChannelCounts.{ChannelCounts}
use Rattle.comtrade_cfg.specs.declared.sampling_lines.Sampling.{Sampling}
use Rattle.cfg_fields.specs.declared.fault.CfgFault.{CfgFault}
use Rattle.cfg_fields.specs.declared.fault.CfgFault.TheVariants as fault
use Rattle.cfg_fields.specs.declared.fault.Quantity.TheVariants as quantity
use Rattle.cfg_fields.specs.declared.fault.Unsupported.TheVariants as unsupported
use Rattle.comtrade_cfg.specs.Configuration.{Configuration, cfg_view}
use Rattle.cfg_fields.specs.Fields.{Ahead, ahead_of, Reading, on_line, only_blank_lines, field_or_fault, text_field, number_field, position_field, decimal_text, channel_count, frequency_field, rate_field, samples_field, moment_fields, hexadecimal, leap_field, local_code_of}

-- the three fields of a station line: station, device, revision
unfoldable pub station_fields : ℕ → (station device revision : Text) → Result Station CfgFault
station_fields line station device revision = do
  s ← text_field line 1 station
  d ← text_field line 2 device
  r ← number_field line 3 revision
  provided ((r == 1999) || (r == 2013)) (fault.Unsupported unsupported.Revision line)
      (record { station = s; device = d; revision = r })

-- the station line. With two fields alone it is of an earlier revision
abbrev pub station_line : ℕ → List Text → Result Station CfgFault
station_line line (station ∷ device ∷ revision ∷ []) = station_fields line station device revision
station_line line (station ∷ device ∷ []) = Err (fault.Unsupported unsupported.Revision line)
station_line line _ = Err (fault.Line line)

-- the numbers of channels line: TT, nA, nD. TT is judged last
abbrev pub counts_line : ℕ → List Text → Result ChannelCounts CfgFault
counts_line line (total ∷ analogue ∷ status ∷ []) = do
  a ← channel_count 65 quantity.Analogue line 2 analogue
  d ← channel_count 68 quantity.Status line 3 status
  t ← position_field (a + d) line 1 total
  Ok (record { analogue = a; status = d })
counts_line line _ = Err (fault.Line line)

-- the fields of an analogue channel line: An, id, phase, component, unit, a, b, skew, min, max, primary,
-- secondary, PS
unfoldable pub analogue_fields : ℕ → ℕ → (an id phase component unit a b skew min max primary secondary ps :
    Text) → Result Analogue CfgFault
analogue_fields position line an id phase component unit a b skew min max primary secondary ps = do
  n ← position_field position line 1 an
  id ← text_field line 2 id
  phase ← text_field line 3 phase
  component ← text_field line 4 component
  unit ← text_field line 5 unit
  a ← decimal_text line 6 a
  b ← decimal_text line 7 b
  skew ← text_field line 8 skew
  least ← text_field line 9 min
  greatest ← text_field line 10 max
  primary ← text_field line 11 primary
  secondary ← text_field line 12 secondary
  side ← text_field line 13 ps
  Ok (record {
    id = id;
    phase = phase;
    component = component;
    unit = unit;
    a = a;
    b = b;
    skew = skew;
    least =
        least;
    greatest = greatest;
    primary = primary;
    secondary = secondary;
    side = side;
  })

-- the same of the fields as they are handed on
abbrev pub fields_of_analogue : ℕ → ℕ → AnalogueFields → Result Analogue CfgFault
fields_of_analogue position line f =
    analogue_fields position line f.an.now f.id.now f.phase.now f.component.now f.unit.now f.a.now f.b.now
    f.skew.now f.min.now f.max.now f.primary.now f.secondary.now f.ps.now

-- an analogue channel line
abbrev pub analogue_line : ℕ → ℕ → List Text → Result Analogue CfgFault
analogue_line position line (an ∷ id ∷ phase ∷ component ∷ unit ∷ a ∷ b ∷ skew ∷ min ∷ max ∷ primary ∷
    secondary ∷ ps ∷ []) =
    analogue_fields position line an id phase component unit a b skew min max primary secondary ps
analogue_line position line _ = Err (fault.Line line)

-- the fields of a status channel line: Dn, id, phase, component, normal
unfoldable pub status_fields : ℕ → ℕ → Text → Text → Text → Text → Text → Result StatusLine CfgFault
status_fields position line dn id phase component normal = do
  n ← position_field position line 1 dn
  id ← text_field line 2 id
  phase ← text_field line 3 phase
  component ← text_field line 4 component
  normal ← text_field line 5 normal
  Ok (record { id = id; phase = phase; component = component; normal = normal })

-- a status channel line
abbrev pub status_line : ℕ → ℕ → List Text → Result StatusLine CfgFault
status_line position line (dn ∷ id ∷ phase ∷ component ∷ normal ∷ []) =
    status_fields position line dn id phase component normal
status_line position line _ = Err (fault.Line line)

-- at most so many channels of each kind
abbrev pub AreFew : ChannelCounts → Type 0
AreFew n = (n.analogue ≤ MOST_CHANNELS) × (n.status ≤ MOST_CHANNELS)

-- the lines of n channels, the first of them at this position
unfoldable pub channel_lines : {A : Type 0} → (ℕ → ℕ → List Text → Result A CfgFault) → ℕ → ℕ → Ahead →
    Reading (List A)
channel_lines rule position zero ahead = Ok ([], ahead)
channel_lines rule position (suc n) ahead = do
  first ← on_line (rule position) ahead
  others ← channel_lines rule (position + 1) n first.1
  Ok (first.0 ∷ others.0, others.1)

-- all analogue channel lines, so many
abbrev pub analogue_lines : ℕ → Ahead → Reading (List Analogue)
analogue_lines count = channel_lines analogue_line 1 count

-- all status channel lines, so many
abbrev pub status_lines : ℕ → Ahead → Reading (List StatusLine)
status_lines count = channel_lines status_line 1 count

-- the line frequency line: lf
abbrev pub frequency_line : ℕ → List Text → Result ℕ CfgFault
frequency_line line (lf ∷ []) = frequency_field line 1 lf
frequency_line line _ = Err (fault.Line line)

-- the number of sampling rates line: nrates, which is 1
abbrev pub rates_line : ℕ → List Text → Result ℕ CfgFault
rates_line line (nrates ∷ []) = do
  n ← number_field line 1 nrates
  provided (n == 1) (fault.Unsupported unsupported.Rates line) n
rates_line line _ = Err (fault.Line line)

-- the sampling rate line: samp, endsamp
abbrev pub sampling_line : ℕ → ℕ → List Text → Result Sampling CfgFault
sampling_line lf line (samp ∷ endsamp ∷ []) = do
  rate ← rate_field lf line 1 samp
  n ← samples_field line 2 endsamp
  Ok (record { rate = rate; endsamp = n })
sampling_line lf line _ = Err (fault.Line line)

-- a date/time stamp line: date, time. Its value is the written moment
abbrev pub stamp_line : ℕ → List Text → Result ℤ CfgFault
stamp_line line (date ∷ time ∷ []) = moment_fields line (written_moment date time)
stamp_line line _ = Err (fault.Line line)

-- a file type that COMTRADE knows and this program doesn't
abbrev pub is_other_file_type : Text → Bool
is_other_file_type text = list_any (str_eq_ignore_ascii_case text)
    (codes "ASCII" ∷ codes "BINARY32" ∷ codes "FLOAT32" ∷ [])

-- the data file type line: ft
abbrev pub file_type_line : ℕ → List Text → Result FileType CfgFault
file_type_line line (ft ∷ []) =
    if str_eq_ignore_ascii_case ft (codes "BINARY") then Ok Binary
    else (if is_other_file_type ft then Err (fault.Unsupported unsupported.FileType line) else Err
    (fault.Field line 1))
file_type_line line _ = Err (fault.Line line)

-- the time stamp multiplication factor line: timemult, which keeps its spelling
abbrev pub timemult_line : ℕ → List Text → Result Text CfgFault
timemult_line line (timemult ∷ []) = decimal_text line 1 timemult
timemult_line line _ = Err (fault.Line line)

-- the time code line: time_code, local_code
abbrev pub time_code_line : ℕ → List Text → Result (ℤ × Option ℤ) CfgFault
time_code_line line (time_code ∷ local_code ∷ []) = do
  t ← field_or_fault line 1 (code_of time_code)
  l ← field_or_fault line 2 (local_code_of local_code)
  Ok (t, l)
time_code_line line _ = Err (fault.Line line)

-- the time quality line: tmq_code, leapsec
abbrev pub time_quality_line : ℕ → List Text → Result (ℕ × ℕ) CfgFault
time_quality_line line (tmq_code ∷ leapsec ∷ []) = do
  q ← field_or_fault line 1 (hexadecimal tmq_code)
  l ← leap_field line 2 leapsec
  Ok (q, l)
time_quality_line line _ = Err (fault.Line line)

-- the two lines that revision 2013 has behind timemult
abbrev pub zone_lines : Bool → Ahead → Reading (Option Zone)
zone_lines is_2013 ahead = elim is_2013 [
  | true ↦ (do
    codes ← on_line time_code_line ahead
    quality ← on_line time_quality_line codes.1
    Ok (
      Some (record {
        time_code = codes.0.0;
        local_code = codes.0.1;
        quality = quality.0.0;
        leap =
            quality.0.1;
      }),
      quality.1,
    ))
  | false ↦ Ok (None, ahead)
]

-- the time code, if there is one, is less than 15 hours to either side
abbrev pub HasOffset : Option Zone → Type 0
HasOffset zone = ForSome zone (λ z. IsWithin 899 z.time_code)

-- the offset of the written moments from UTC, in minutes: a file of 1999 is taken as UTC
abbrev pub offset_of : Option Zone → ℤ
offset_of zone = option_map_or (λ z. z.time_code) zone (pos 0)

-- the lines behind the channels, in order, after what the lines before them say
unfoldable pub lines_behind : Station → List Analogue → List StatusLine → Ahead →
    Result Configuration CfgFault
lines_behind station analogue status ahead = do
  lf ← on_line frequency_line ahead
  rates ← on_line rates_line lf.1
  sampling ← on_line (sampling_line lf.0) rates.1
  first ← on_line stamp_line sampling.1
  trigger ← on_line stamp_line first.1
  file_type ← on_line file_type_line trigger.1
  timemult ← on_line timemult_line file_type.1
  zone ← zone_lines (station.revision == 2013) timemult.1
  ended ← only_blank_lines zone.1.number zone.1.lines
  Ok (record {
    station = station.station;
    device = station.device;
    revision = station.revision;
    analogue = analogue;
    status = status;
    lf = lf.0;
    rate = sampling.0.rate;
    endsamp = sampling.0.endsamp;
    first = utc_of first.0 (offset_of zone.0);
    trigger = utc_of trigger.0 (offset_of zone.0);
    file_type = file_type.0;
    timemult = timemult.0;
    zone = zone.0;
  })

-- all lines in order
unfoldable pub configuration_ahead : Ahead → Result Configuration CfgFault
configuration_ahead ahead = do
  station ← on_line station_line ahead
  counts ← on_line counts_line station.1
  analogue ← analogue_lines counts.0.analogue counts.1
  status ← status_lines counts.0.status analogue.1
  lines_behind station.0 analogue.0 status.0 status.1

-- the configuration that a text says, or its first fault
unfoldable pub configuration_of : Text → Result Configuration CfgFault
configuration_of text =
    if nat_le (length text) MOST_CFG_BYTES then configuration_ahead (ahead_of text)
    else Err (fault.Limit quantity.CfgBytes 0)

-- the text is a cfg, and says this
abbrev pub IsCfgOf : Text → Configuration → Type 0
IsCfgOf text c = configuration_of text ≡ Ok c

-- some text says this
abbrev pub IsConfiguration : Configuration → Type 0
IsConfiguration c = (text : Text) × IsCfgOf text c

-- what `read_cfg` may answer: the configuration, the first fault, or want of memory
abbrev pub GivesCfg : Result Cfg CfgFault → Result Configuration CfgFault → Type 0
GivesCfg result read = GivesUnless fault.OutOfMemory cfg_view result read
