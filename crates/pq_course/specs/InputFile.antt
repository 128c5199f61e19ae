-- The subject: the files that words name, with their limits, and courses that ask for one (profile).
use Rattle.std.specs.Prelude.{ℕ}
use Rattle.cfg_fields.specs.declared.fault.Quantity.{Quantity}
use Rattle.cfg_fields.specs.declared.fault.Quantity.TheVariants as quantity
use Rattle.comtrade_cfg.specs.declared.limits.TheConstants.{MOST_CFG_BYTES}
use Rattle.comtrade_dat.specs.declared.limits.TheConstants.{MOST_DAT_BYTES}
use Rattle.pq_base.specs.declared.shelf.ReadAll.{ReadAll}
use Rattle.pq_base.specs.declared.shelf.ReadAll.TheVariants as why
use Rattle.pq_course.specs.Verdict.{Course, Asks, with_file}
use Rattle.pq_course.specs.declared.input_file.InputFile.{InputFile}
use Rattle.pq_course.specs.declared.input_file.InputFile.TheVariants as file
use Rattle.pq_course.specs.declared.input_file.TheConstants.{MOST_SCHEDULE_BYTES}
use Rattle.status_text.specs.declared.status.Status.{Status}
use Rattle.status_text.specs.declared.status.Status.TheVariants as status
use Rattle.pq_words.specs.Text.{Text}

-- files are numbered in the order of the words
abbrev pub number_of : InputFile → ℕ
number_of file.Cfg = 1
number_of file.Dat = 2
number_of file.Schedule = 3

-- the most bytes that it may have
abbrev pub limit_of : InputFile → ℕ
limit_of file.Cfg = MOST_CFG_BYTES
limit_of file.Dat = MOST_DAT_BYTES
limit_of file.Schedule = MOST_SCHEDULE_BYTES

-- what passes this limit
abbrev pub quantity_of : InputFile → Quantity
quantity_of file.Cfg = quantity.CfgBytes
quantity_of file.Dat = quantity.DatBytes
quantity_of file.Schedule = quantity.ScheduleBytes

-- the file of this name is asked for, and the course goes on with its bytes
abbrev pub asks_for : InputFile → Text → (Text → Course Status) → Course Status
asks_for file name go =
    Asks name (with_file (status.NoFile (number_of file)) (status.Limit (quantity_of file) 0)
    (limit_of file) go)

-- the status of a call that can't have it, after so many faults
abbrev pub refusal_of : InputFile → ReadAll → ℕ → Status
refusal_of file why.Failed faults = status.ReadFault faults
refusal_of file why.Missing faults = status.NoFile (number_of file)
refusal_of file why.Over faults = status.Limit (quantity_of file) 0
refusal_of file why.OutOfMemory faults = status.OutOfMemory
