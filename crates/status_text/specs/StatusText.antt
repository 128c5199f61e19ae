-- The subject: the exit code and the fault text of each status (profile).
use Rattle.std.specs.Prelude.{ℕ, ◌==◌, if◌then◌else◌, [], ◌++◌, Option, codes, decimal}
use Rattle.std.specs.Option.{option_map_or}
use Rattle.comtrade_dat.specs.declared.dat_fault.DatFault.{DatFault}
use Rattle.comtrade_dat.specs.declared.dat_fault.DatFault.TheVariants as dat_fault
use Rattle.cfg_fields.specs.declared.fault.Quantity.{Quantity}
use Rattle.cfg_fields.specs.declared.fault.Quantity.TheVariants as quantity
use Rattle.status_text.specs.declared.sentence.Sentence.{Sentence}
use Rattle.status_text.specs.declared.status.Status.{Status}
use Rattle.status_text.specs.declared.status.Status.TheVariants as status
use Rattle.cfg_fields.specs.declared.fault.Unsupported.{Unsupported}
use Rattle.cfg_fields.specs.declared.fault.Unsupported.TheVariants as unsupported
use Rattle.pq_words.specs.Text.{Text}

-- the exit code
abbrev pub code_of : Status → ℕ
code_of status.Done = 0
code_of status.Usage = 1
code_of (status.CfgFault line field) = 2
code_of (status.Unsupported what line) = 3
code_of (status.Limit what line) = 4
code_of (status.Selection channel) = 5
code_of status.BadLimits = 6
code_of (status.DatFault kind) = 7
code_of (status.ReadFault faults) = 8
code_of (status.WriteFault faults) = 9
code_of (status.ScheduleFault line) = 10
code_of status.OutOfMemory = 11
code_of (status.NoFile file) = 14

-- what isn't supported
abbrev pub unsupported_word : Unsupported → Text
unsupported_word unsupported.Revision = codes "revision"
unsupported_word unsupported.Frequency = codes "frequency"
unsupported_word unsupported.Rates = codes "rates"
unsupported_word unsupported.FileType = codes "file type"
unsupported_word unsupported.LeapSecond = codes "leap second"

-- what passes its limit
abbrev pub quantity_word : Quantity → Text
quantity_word quantity.CfgBytes = codes "cfg bytes"
quantity_word quantity.DatBytes = codes "dat bytes"
quantity_word quantity.ScheduleBytes = codes "schedule bytes"
quantity_word quantity.ReportBytes = codes "report bytes"
quantity_word quantity.Analogue = codes "analogue channels"
quantity_word quantity.Status = codes "status channels"
quantity_word quantity.Samples = codes "samples"
quantity_word quantity.Rate = codes "rate"
quantity_word quantity.Value = codes "value"
quantity_word quantity.Channels = codes "selected channels"

-- two numbers among texts
abbrev pub twice_numbered : Text → ℕ → Text → ℕ → Text → Text
twice_numbered opening first middle second closing =
    opening ++ (decimal first ++ (middle ++ (decimal second ++ closing)))

-- field 0 stands for the whole line
abbrev pub cfg_text : ℕ → ℕ → Text
cfg_text line field =
    if field == 0
    then codes "cfg line " ++ (decimal line ++ codes ": missing, surplus or wrong number of fields")
    else twice_numbered (codes "cfg line ") line (codes " field ") field (codes ": not readable")

abbrev pub unsupported_text : ℕ → Text → Text
unsupported_text line what = codes "cfg line " ++ (decimal line ++ (codes ": unsupported " ++ what))

-- line 0 stands for no line
abbrev pub limit_text : ℕ → Text → Text
limit_text line what =
    if line == 0 then codes "limit passed: " ++ what
    else codes "cfg line " ++ (decimal line ++ (codes ": limit passed: " ++ what))

-- the fault of a dat
abbrev pub dat_fault_text : DatFault → Text
dat_fault_text (dat_fault.Short at) = codes "dat record " ++ (decimal at ++ codes ": cut off")
dat_fault_text (dat_fault.Number at found) =
    twice_numbered (codes "dat record ") at (codes ": sample number ") found []
dat_fault_text (dat_fault.Missing at channel) =
    twice_numbered (codes "dat record ") at (codes ": channel ") channel (codes " missing")
dat_fault_text (dat_fault.Long bytes) =
    codes "dat: " ++ (decimal bytes ++ codes " bytes after the last record")
dat_fault_text dat_fault.OutOfMemory = codes "out of memory"

-- channel 0 stands for none of them
abbrev pub selection_text : ℕ → Text
selection_text channel =
    if channel == 0 then codes "selection: no voltage channel"
    else codes "selection: channel " ++ decimal channel

-- the sentence of a status, without a line end
unfoldable pub sentence_of : Status → Text
sentence_of status.Done = []
sentence_of status.Usage = codes "usage: words not understood"
sentence_of (status.CfgFault line field) = cfg_text line field
sentence_of (status.Unsupported what line) = unsupported_text line (unsupported_word what)
sentence_of (status.Limit what line) = limit_text line (quantity_word what)
sentence_of (status.Selection channel) = selection_text channel
sentence_of status.BadLimits = codes "settings: thresholds out of order"
sentence_of (status.DatFault kind) = dat_fault_text kind
sentence_of (status.ReadFault faults) = codes "read failed (" ++ (decimal faults ++ codes ")")
sentence_of (status.WriteFault faults) = codes "write failed (" ++ (decimal faults ++ codes ")")
sentence_of (status.ScheduleFault line) = codes "schedule line " ++ (decimal line ++ codes ": not allowed")
sentence_of status.OutOfMemory = codes "out of memory"
sentence_of (status.NoFile file) = codes "file " ++ (decimal file ++ codes ": not found")

-- a number as it is written; nothing where there is none
abbrev pub number_text : Option ℕ → Text
number_text n = option_map_or decimal n []

-- a sentence in memory: texts, and numbers between them
abbrev pub sentence_view : Sentence → Text
sentence_view s = s.opening.now
    ++ (number_text s.first ++ (s.middle.now ++ (number_text s.second ++ s.closing.now)))
