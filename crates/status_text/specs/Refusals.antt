-- The subject: how the faults of words, cfg, selection and dat are refused (profile).
use Rattle.std.specs.Prelude.{◌≡◌, ◌⊎◌, Result, Ok, Err}
use Rattle.std.specs.declared.io.ErrorKind.{ErrorKind}
use Rattle.std.specs.declared.io.ErrorKind.TheVariants as kind
use Rattle.cfg_fields.specs.declared.fault.CfgFault.{CfgFault}
use Rattle.cfg_fields.specs.declared.fault.CfgFault.TheVariants as cfg_fault
use Rattle.cfg_fields.specs.declared.fault.Quantity.TheVariants as quantity
use Rattle.comtrade_cfg.specs.declared.select_fault.SelectFault.{SelectFault}
use Rattle.comtrade_cfg.specs.declared.select_fault.SelectFault.TheVariants as select_fault
use Rattle.comtrade_dat.specs.declared.dat_fault.DatFault.{DatFault}
use Rattle.comtrade_dat.specs.declared.dat_fault.DatFault.TheVariants as dat_fault
use Rattle.status_text.specs.declared.status.Status.{Status}
use Rattle.status_text.specs.declared.status.Status.TheVariants as status

-- the status of words that can't be had: want of memory, or else they aren't UTF-8, so no command's
abbrev pub words_refusal : ErrorKind → Status
words_refusal kind.OutOfMemory = status.OutOfMemory
words_refusal _ = status.Usage

abbrev pub IsWordsRefusal : Status → Type 0
IsWordsRefusal s = (s ≡ status.OutOfMemory) ⊎ (s ≡ status.Usage)

-- the refusal of a cfg
abbrev pub cfg_refusal : CfgFault → Status
cfg_refusal (cfg_fault.Line number) = status.CfgFault number 0
cfg_refusal (cfg_fault.Field line field) = status.CfgFault line field
cfg_refusal (cfg_fault.Unsupported what line) = status.Unsupported what line
cfg_refusal (cfg_fault.Limit what line) = status.Limit what line
cfg_refusal cfg_fault.OutOfMemory = status.OutOfMemory

-- the refusal of a selection
abbrev pub select_refusal : SelectFault → Status
select_refusal (select_fault.Channel channel) = status.Selection channel
select_refusal select_fault.TooMany = status.Limit quantity.Channels 0
select_refusal (select_fault.Value line) = status.Limit quantity.Value line
select_refusal select_fault.OutOfMemory = status.OutOfMemory

-- the refusal of a dat
abbrev pub dat_refusal : DatFault → Status
dat_refusal dat_fault.OutOfMemory = status.OutOfMemory
dat_refusal kind = status.DatFault kind

-- the law of refused dats: none is told by want of memory
abbrev pub RefusesNoMemory : Type 0
RefusesNoMemory = (why : DatFault) → dat_refusal why ≡ status.DatFault dat_fault.OutOfMemory → ⊥

-- a fault, as it is refused
abbrev pub or_refused : {A E : Type 0} → (E → Status) → Result A E → Result A Status
or_refused refusal (Ok x) = Ok x
or_refused refusal (Err e) = Err (refusal e)

-- a status that a refusal is told by, or want of memory
abbrev pub IsRefusing : Status → Type 0
IsRefusing status.Done = ⊥
IsRefusing (status.ReadFault faults) = ⊥
IsRefusing (status.WriteFault faults) = ⊥
IsRefusing _ = Unit {0}
