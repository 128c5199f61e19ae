-- Worked values, so that a wrong rule in the specs does not check.
use Rattle.std.proofs.Common.{◌≡◌, [], ◌∷◌, map, refl}
use Rattle.std.specs.Fmt.{digits}
use Rattle.std.specs.Prelude.{codes}
use Rattle.cfg_fields.specs.declared.fault.Quantity.TheVariants as quantity
use Rattle.cfg_fields.specs.declared.fault.Unsupported.TheVariants as unsupported
use Rattle.comtrade_dat.specs.declared.dat_fault.DatFault.TheVariants as fault
use Rattle.status_text.specs.StatusText.{code_of, sentence_of}
use Rattle.status_text.specs.declared.status.Status.TheVariants as status

-- ---- the sentences

pub sentences : map sentence_of
    (status.Usage ∷ status.CfgFault 2 0 ∷ status.CfgFault 3 13
    ∷ status.Unsupported unsupported.FileType 9
    ∷ status.Limit quantity.Status 2 ∷ status.Limit quantity.CfgBytes 0 ∷ status.Limit quantity.Value 3
    ∷ status.Selection 0 ∷ status.Selection 9 ∷ status.BadLimits
    ∷ status.DatFault (fault.Short 552) ∷ status.DatFault (fault.Number 3 4294967295)
    ∷ status.DatFault (fault.Missing 5 1) ∷ status.DatFault (fault.Long 1)
    ∷ status.ReadFault 1 ∷ status.WriteFault 2 ∷ status.ScheduleFault 2 ∷ status.OutOfMemory
    ∷ status.NoFile 2 ∷ status.Done ∷ [])
    ≡ codes "usage: words not understood"
    ∷ codes "cfg line 2: missing, surplus or wrong number of fields"
    ∷ codes "cfg line 3 field 13: not readable"
    ∷ codes "cfg line 9: unsupported file type"
    ∷ codes "cfg line 2: limit passed: status channels"
    ∷ codes "limit passed: cfg bytes"
    ∷ codes "cfg line 3: limit passed: value"
    ∷ codes "selection: no voltage channel"
    ∷ codes "selection: channel 9"
    ∷ codes "settings: thresholds out of order"
    ∷ codes "dat record 552: cut off"
    ∷ codes "dat record 3: sample number 4294967295"
    ∷ codes "dat record 5: channel 1 missing"
    ∷ codes "dat: 1 bytes after the last record"
    ∷ codes "read failed (1)"
    ∷ codes "write failed (2)"
    ∷ codes "schedule line 2: not allowed"
    ∷ codes "out of memory"
    ∷ codes "file 2: not found" ∷ [] ∷ []
unfolding sentence_of digits
sentences = refl

pub exit_codes : map code_of
    (status.Done ∷ status.Usage ∷ status.CfgFault 2 0 ∷ status.Unsupported unsupported.Revision 0
    ∷ status.Limit quantity.DatBytes 0 ∷ status.Selection 0 ∷ status.BadLimits
    ∷ status.DatFault (fault.Long 1) ∷ status.ReadFault 1 ∷ status.WriteFault 1 ∷ status.ScheduleFault 1
    ∷ status.OutOfMemory ∷ status.NoFile 1 ∷ [])
    ≡ 0 ∷ 1 ∷ 2 ∷ 3 ∷ 4 ∷ 5 ∷ 6 ∷ 7 ∷ 8 ∷ 9 ∷ 10 ∷ 11 ∷ 14 ∷ []
exit_codes = refl
