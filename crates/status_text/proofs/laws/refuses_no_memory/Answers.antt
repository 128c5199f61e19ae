use Rattle.std.proofs.Common.{◌≡◌}
use Rattle.comtrade_dat.specs.declared.dat_fault.DatFault.{DatFault}
use Rattle.comtrade_dat.specs.declared.dat_fault.DatFault.TheVariants as fault
use Rattle.status_text.specs.Refusals.{RefusesNoMemory, dat_refusal}
use Rattle.status_text.specs.declared.status.Status.TheVariants as status
use Rattle.status_text.proofs.laws.refuses_no_memory.Goals as goal

refuses : (why : DatFault) → dat_refusal why ≡ status.DatFault fault.OutOfMemory → ⊥
refuses (fault.Short at) e = cc
refuses (fault.Number at found) e = cc
refuses (fault.Missing at channel) e = cc
refuses (fault.Long bytes) e = cc
refuses fault.OutOfMemory e = cc

pub returns : goal.returns
returns c = refuses
