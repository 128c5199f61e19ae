-- Which texts are cfgs and what they say, line by line, apart from any order of reading (C37.111,
-- configuration file).
use Rattle.std.specs.Prelude.{◌≡◌, ℕ, ◌+◌, ◌-◌, ◌*◌, ◌^◌, ◌≤◌, ◌⊎◌, List, [], ◌∷◌, length, ℤ, pos, Option, Some, None, slice_get, Ok, codes, IsTrue, IsSome}
use Rattle.std.specs.Option.{option_map_or}
use Rattle.std.specs.Str.{str_eq_ignore_ascii_case}
use Rattle.std.specs.Str.Lines.{lines}
use Rattle.std.specs.List.{AllByRecursion}
use Rattle.pq_words.specs.Text.{Text, number, is_all_blank}
use Rattle.pq_base.specs.Decimal.{decimal_of}
use Rattle.pq_time.specs.Written.{CivilDate, TimeOfDay, date_of, clock_time_of as time_of, code_of}
use Rattle.pq_time.specs.Moment.{moment_at, written_of}
use Rattle.pq_words.specs.declared.limits.TheConstants.{MOST_SAMPLES}
use Rattle.cfg_fields.specs.declared.limits.TheConstants.{MOST_CHANNELS}
use Rattle.comtrade_cfg.specs.declared.limits.TheConstants.{MOST_CFG_BYTES}
use Rattle.comtrade_cfg.specs.declared.cfg.Analogue.{Analogue}
use Rattle.comtrade_cfg.specs.declared.cfg.StatusLine.{StatusLine}
use Rattle.comtrade_cfg.specs.declared.cfg.Zone.{Zone}
use Rattle.comtrade_cfg.specs.Configuration.{Configuration}
use Rattle.cfg_fields.specs.FieldGrammar.{IsTextField, IsMillionths}
use Rattle.cfg_fields.specs.Fields.{fields_of, lettered, hexadecimal, leap_digit, local_code_of, is_rate}
use Rattle.comtrade_cfg.specs.CfgText.{offset_of, configuration_of}

-- the fields of line k, from 1; none where there is no such line
abbrev pub fields_at : List Text → ℕ → List Text
fields_at lines k = option_map_or fields_of (slice_get lines (k - 1)) []

-- station, device, revision
pub record IsStationLine (fields : List Text) (c : Configuration) : Type 0 where
  pub revision : Text
  pub fields_are : fields ≡ c.station ∷ c.device ∷ revision ∷ []
  pub texts : AllByRecursion IsTextField (c.station ∷ c.device ∷ [])
  pub revision_is : number revision ≡ Some c.revision
  pub known : (c.revision ≡ 1999) ⊎ (c.revision ≡ 2013)

-- TT, nA, nD
pub record IsCountsLine (fields : List Text) (analogue status : ℕ) : Type 0 where
  pub total : Text
  pub na : Text
  pub nd : Text
  pub fields_are : fields ≡ total ∷ na ∷ nd ∷ []
  pub na_is : lettered 65 na ≡ Some analogue
  pub nd_is : lettered 68 nd ≡ Some status
  pub total_is : number total ≡ Some (analogue + status)
  pub few : (analogue ≤ MOST_CHANNELS) × (status ≤ MOST_CHANNELS)

-- An, id, phase, component, unit, a, b, skew, min, max, primary, secondary, PS
pub record IsAnalogueLine (position : ℕ) (fields : List Text) (ch : Analogue) : Type 0 where
  pub an : Text
  pub fields_are : fields ≡ an ∷ ch.id ∷ ch.phase ∷ ch.component ∷ ch.unit ∷ ch.a ∷ ch.b ∷ ch.skew ∷ ch.least
      ∷ ch.greatest ∷ ch.primary ∷ ch.secondary ∷ ch.side ∷ []
  pub an_is : number an ≡ Some position
  pub texts : AllByRecursion IsTextField (ch.id ∷ ch.phase ∷ ch.component ∷ ch.unit ∷ ch.skew ∷ ch.least ∷
      ch.greatest ∷ ch.primary ∷ ch.secondary ∷ ch.side ∷ [])
  pub a_is : IsSome (decimal_of ch.a)
  pub b_is : IsSome (decimal_of ch.b)

-- Dn, id, phase, component, normal
pub record IsStatusLine (position : ℕ) (fields : List Text) (ch : StatusLine) : Type 0 where
  pub dn : Text
  pub fields_are : fields ≡ dn ∷ ch.id ∷ ch.phase ∷ ch.component ∷ ch.normal ∷ []
  pub dn_is : number dn ≡ Some position
  pub texts : AllByRecursion IsTextField (ch.id ∷ ch.phase ∷ ch.component ∷ ch.normal ∷ [])

-- lf
pub record IsFrequencyLine (fields : List Text) (lf : ℕ) : Type 0 where
  pub text : Text
  pub fields_are : fields ≡ text ∷ []
  pub is : IsMillionths text (pos (lf * 10 ^ 6))
  pub known : (lf ≡ 50) ⊎ (lf ≡ 60)

-- nrates
pub record IsRatesLine (fields : List Text) : Type 0 where
  pub text : Text
  pub fields_are : fields ≡ text ∷ []
  pub is : number text ≡ Some 1

-- samp, endsamp
pub record IsSamplingLine (fields : List Text) (c : Configuration) : Type 0 where
  pub samp : Text
  pub endsamp : Text
  pub fields_are : fields ≡ samp ∷ endsamp ∷ []
  pub samp_is : IsMillionths samp (pos c.rate)
  pub within : IsTrue (is_rate c.lf c.rate)
  pub endsamp_is : number endsamp ≡ Some c.endsamp
  pub few : c.endsamp ≤ MOST_SAMPLES

-- date and time of a moment, as written
pub record IsStampLine (fields : List Text) (written : ℤ) : Type 0 where
  pub date : Text
  pub time : Text
  pub fields_are : fields ≡ date ∷ time ∷ []
  pub day : CivilDate
  pub clock : TimeOfDay
  pub date_is : date_of date ≡ Some day
  pub time_is : time_of time ≡ Some clock
  pub moment_is : written ≡ moment_at day clock

-- ft
pub record IsFileTypeLine (fields : List Text) : Type 0 where
  pub text : Text
  pub fields_are : fields ≡ text ∷ []
  pub is : IsTrue (str_eq_ignore_ascii_case text (codes "BINARY"))

-- timemult
pub record IsTimemultLine (fields : List Text) (timemult : Text) : Type 0 where
  pub fields_are : fields ≡ timemult ∷ []
  pub is : IsSome (decimal_of timemult)

-- time_code, local_code; tmq_code, leapsec
pub record AreZoneLines (codes quality : List Text) (z : Zone) : Type 0 where
  pub time_code : Text
  pub local_code : Text
  pub codes_are : codes ≡ time_code ∷ local_code ∷ []
  pub time_code_is : code_of time_code ≡ Some z.time_code
  pub local_code_is : local_code_of local_code ≡ Some z.local_code
  pub tmq_code : Text
  pub leapsec : Text
  pub quality_are : quality ≡ tmq_code ∷ leapsec ∷ []
  pub tmq_code_is : hexadecimal tmq_code ≡ Some z.quality
  pub leapsec_is : leap_digit leapsec ≡ Some z.leap
  pub known : (z.leap ≡ 0) ⊎ (z.leap ≡ 3)

-- revision 2013 has the two lines, and 1999 has not
abbrev pub HasZoneLines : ℕ → List Text → List Text → Option Zone → Type 0
HasZoneLines revision codes quality None = revision ≡ 1999
HasZoneLines revision codes quality (Some z) = (revision ≡ 2013) × AreZoneLines codes quality z

-- the number of the line frequency line
abbrev pub after_channels : Configuration → ℕ
after_channels c = 3 + length c.analogue + length c.status

-- the number of the last line
abbrev pub last_line : Configuration → ℕ
last_line c = after_channels c + 6 + option_map_or (λ z. 2) c.zone 0

-- the lines say this configuration
pub record LinesSay (text : List Text) (c : Configuration) : Type 0 where
  pub station : IsStationLine (fields_at text 1) c
  pub counts : IsCountsLine (fields_at text 2) (length c.analogue) (length c.status)
  pub analogue : (k : ℕ) (ch : Analogue) → slice_get c.analogue k ≡ Some ch →
      IsAnalogueLine (k + 1) (fields_at text (k + 3)) ch
  pub status : (k : ℕ) (ch : StatusLine) → slice_get c.status k ≡ Some ch →
      IsStatusLine (k + 1) (fields_at text (k + 3 + length c.analogue)) ch
  pub frequency : IsFrequencyLine (fields_at text (after_channels c)) c.lf
  pub rates : IsRatesLine (fields_at text (after_channels c + 1))
  pub sampling : IsSamplingLine (fields_at text (after_channels c + 2)) c
  pub first : IsStampLine (fields_at text (after_channels c + 3)) (written_of c.first (offset_of c.zone))
  pub trigger : IsStampLine (fields_at text (after_channels c + 4)) (written_of c.trigger (offset_of c.zone))
  pub file_type : IsFileTypeLine (fields_at text (after_channels c + 5))
  pub timemult : IsTimemultLine (fields_at text (after_channels c + 6)) c.timemult
  pub zone : HasZoneLines c.revision (fields_at text (after_channels c + 7))
      (fields_at text (after_channels c + 8)) c.zone
  pub blank : (k : ℕ) (line : Text) → last_line c ≤ k → slice_get text k ≡ Some line →
      IsTrue (is_all_blank line)

-- the text is a cfg that says this configuration
pub record IsCfgText (text : Text) (c : Configuration) : Type 0 where
  pub bytes : length text ≤ MOST_CFG_BYTES
  pub says : LinesSay (lines text) c

-- the two laws of reading: what is read is in the grammar, and nothing in it is refused
pub record ReadsTheGrammar : Type 0 where
  pub found : (text : Text) (c : Configuration) → configuration_of text ≡ Ok c → IsCfgText text c
  pub only : (text : Text) (c : Configuration) → IsCfgText text c → configuration_of text ≡ Ok c
