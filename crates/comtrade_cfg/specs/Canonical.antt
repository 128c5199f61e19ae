-- The canonical text of a configuration, which reads back to it (profile).
use Rattle.std.specs.Global.{Vec}
use Rattle.std.specs.declared.alloc.AllocError.{AllocError}
use Rattle.std.specs.Prelude.{◌≡◌, ℕ, ◌+◌, ◌/◌, ◌%◌, ◌^◌, ◌≤◌, ◌==◌, if◌then◌else◌, List, [], ◌∷◌, ◌++◌, length, map, ℤ, pos, negsuc, Option, Some, None, Result, OnOk, decimal, codes}
use Rattle.std.specs.Option.{option_map_or}
use Rattle.std.specs.List.{flat_map}
use Rattle.pq_words.specs.Text.{Text, joined_by, padded}
use Rattle.pq_time.specs.Written.{CivilDate, TimeOfDay}
use Rattle.pq_time.specs.Moment.{written_of}
use Rattle.pq_time.specs.Printed.{date_shown, time_shown, hms_text}
use Rattle.comtrade_cfg.specs.declared.limits.TheConstants.{MOST_CFG_BYTES}
use Rattle.comtrade_cfg.specs.declared.cfg.Analogue.{Analogue}
use Rattle.comtrade_cfg.specs.declared.cfg.StatusLine.{StatusLine}
use Rattle.comtrade_cfg.specs.declared.cfg.Zone.{Zone}
use Rattle.comtrade_cfg.specs.declared.cfg.FileType.{FileType}
use Rattle.comtrade_cfg.specs.declared.cfg.FileType.TheVariants.{Binary}
use Rattle.comtrade_cfg.specs.Configuration.{Configuration}
use Rattle.comtrade_cfg.specs.CfgText.{IsConfiguration, IsCfgOf, offset_of}

-- fields with a comma between each two
abbrev pub row_of : List Text → Text
row_of fields = joined_by 44 fields

-- whole hertz, and a point and six digits where there is a rest of microhertz
abbrev pub rate_text : ℕ → Text
rate_text rate = decimal (rate / 10 ^ 6) ++ (if rate % 10 ^ 6 == 0 then [] else 46 ∷ padded 6 (rate % 10 ^ 6))

-- `dd/mm/yyyy`
abbrev pub date_text : CivilDate → Text
date_text d = padded 2 d.day ++ 47 ∷ padded 2 d.month ++ 47 ∷ padded 4 d.year

-- six digits after the point, nine where the nanoseconds aren't whole microseconds
abbrev pub fraction_text : ℕ → Text
fraction_text nanoseconds = if nanoseconds % 1000 == 0 then padded 6 (nanoseconds / 1000) else padded 9
    nanoseconds

-- `hh:mm:ss` and the fraction
abbrev pub time_text : TimeOfDay → Text
time_text t = hms_text t ++ 46 ∷ fraction_text t.nanosecond

-- the date and the time of a written moment
abbrev pub stamp_text : ℤ → Text
stamp_text written = row_of (date_text (date_shown written) ∷ time_text (time_shown written) ∷ [])

-- hours, and `h` with two digits where the minutes aren't 0
abbrev pub offset_text : ℕ → Text
offset_text minutes = decimal (minutes / 60) ++ (if minutes % 60 == 0 then [] else 104 ∷ padded 2
    (minutes % 60))

-- a time code: an optional `-`, and the offset
abbrev pub code_text : ℤ → Text
code_text (pos minutes) = offset_text minutes
code_text (negsuc n) = 45 ∷ offset_text (n + 1)

-- one hexadecimal digit, a capital
abbrev pub hexadecimal_text : ℕ → Text
hexadecimal_text n = (if n / 10 == 0 then 48 + n else 55 + n) ∷ []

-- the file type in capitals
abbrev pub file_type_text : FileType → Text
file_type_text Binary = codes "BINARY"

-- the fields behind the position of an analogue channel
abbrev pub analogue_fields : Analogue → List Text
analogue_fields c = c.id ∷ c.phase ∷ c.component ∷ c.unit ∷ c.a ∷ c.b ∷ c.skew ∷ c.least ∷ c.greatest ∷
    c.primary ∷ c.secondary ∷ c.side ∷ []

-- the fields behind the position of a status channel
abbrev pub status_fields : StatusLine → List Text
status_fields c = c.id ∷ c.phase ∷ c.component ∷ c.normal ∷ []

-- the channels' lines, each with its position from this one on
abbrev pub numbered_rows : ℕ → List (List Text) → List Text
numbered_rows position [] = []
numbered_rows position (fields ∷ more) = row_of (decimal position ∷ fields) ∷ numbered_rows (position + 1)
    more

-- a time code, or `x` where there is none
abbrev pub local_code_text : Option ℤ → Text
local_code_text code = option_map_or code_text code (codes "x")

-- ---- the lines, in their order

-- the station line
abbrev pub station_row : Configuration → Text
station_row c = row_of (c.station ∷ c.device ∷ decimal c.revision ∷ [])

-- the numbers of channels line, for so many of each kind
abbrev pub counts_row : ℕ → ℕ → Text
counts_row analogue status = row_of (
    decimal (analogue + status) ∷ (decimal analogue ++ 65 ∷ []) ∷ (decimal status ++ 68 ∷ []) ∷ []
    )

-- the analogue channel lines
abbrev pub analogue_rows : List Analogue → List Text
analogue_rows channels = numbered_rows 1 (map analogue_fields channels)

-- the status channel lines
abbrev pub status_rows : List StatusLine → List Text
status_rows channels = numbered_rows 1 (map status_fields channels)

-- the line frequency line, the number of sampling rates line and the sampling rate line
abbrev pub sampling_rows : Configuration → List Text
sampling_rows c = decimal c.lf ∷ decimal 1 ∷ row_of (rate_text c.rate ∷ decimal c.endsamp ∷ []) ∷ []

-- the date/time stamp line of a moment in UTC, as it is written in a zone
abbrev pub stamp_row : Option Zone → ℤ → Text
stamp_row zone utc = stamp_text (written_of utc (offset_of zone))

-- the two date/time stamp lines
abbrev pub stamp_rows : Configuration → List Text
stamp_rows c = stamp_row c.zone c.first ∷ stamp_row c.zone c.trigger ∷ []

-- the data file type line and the time stamp multiplication factor line
abbrev pub form_rows : Configuration → List Text
form_rows c = file_type_text c.file_type ∷ c.timemult ∷ []

-- the two lines that revision 2013 has behind them
abbrev pub zone_rows : Option Zone → List Text
zone_rows None = []
zone_rows (Some z) =
    row_of (code_text z.time_code ∷ local_code_text z.local_code ∷ [])
    ∷ row_of (hexadecimal_text z.quality ∷ decimal z.leap ∷ []) ∷ []

-- the lines behind those of the channels
abbrev pub behind_rows : Configuration → List Text
behind_rows c = sampling_rows c ++ (stamp_rows c ++ (form_rows c ++ zone_rows c.zone))

-- the lines of the canonical text
abbrev pub canonical_lines : Configuration → List Text
canonical_lines c =
    station_row c
    ∷ counts_row (length c.analogue) (length c.status)
    ∷ (analogue_rows c.analogue ++ (status_rows c.status ++ behind_rows c))

-- a line with its end, CR LF
abbrev pub ended : Text → Text
ended line = line ++ 13 ∷ 10 ∷ []

-- lines with their ends
abbrev pub lines_text : List Text → Text
lines_text lines = flat_map ended lines

-- the canonical text
unfoldable pub canonical_text : Configuration → Text
canonical_text c = lines_text (canonical_lines c)

-- a text says this configuration, if it is within the limit of a cfg's bytes
abbrev pub SaysAgain : Configuration → Text → Type 0
SaysAgain c text = length text ≤ MOST_CFG_BYTES → IsCfgOf text c

-- the law of printing: what a configuration is printed as says that configuration
abbrev pub ReadsBack : Type 0
ReadsBack = (c : Configuration) → IsConfiguration c → SaysAgain c (canonical_text c)

-- ---- printing

-- a text before, and after something was appended to it, or there was no memory
abbrev pub Appends : Vec ℕ → Vec ℕ → Result (Unit {0}) AllocError → Text → Type 0
Appends before after result added = OnOk result (after.items ≡ before.items ++ added)

-- the line of a channel, with its position
abbrev pub numbered_text : ℕ → List Text → Text
numbered_text position fields = ended (row_of (decimal position ∷ fields))

-- fields behind a comma each
abbrev pub behind_commas : List Text → Text
behind_commas fields = flat_map (λ field. 44 ∷ field) fields
