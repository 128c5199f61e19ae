-- The first fault of a dat is never want of memory.
use Rattle.std.proofs.Common.{◌≡◌, ◌≢◌, ◌∙◌, ℕ, zero, suc, ◌+◌, ◌-◌, ◌*◌, Bool, true, false, List, [], ◌∷◌, ◌++◌, length, map, nat_le, refl, Option, Some, None, Result, Ok, Err}
use Rattle.std.specs.List.{range_with_len}
use Rattle.std.specs.Prelude.{find}
use Rattle.comtrade_dat.specs.BinaryRecord.{number_in, record_at}
use Rattle.comtrade_dat.specs.Samples.{NoneForMemory, first_fault, is_missing, is_numbered, is_whole, judged_dat, judged_end, judged_record, none_missing, record_size, recording_of, samples_of}
use Rattle.comtrade_dat.specs.declared.dat_fault.DatFault.{DatFault}
use Rattle.comtrade_dat.specs.declared.dat_fault.DatFault.TheVariants as fault
use Rattle.pq_words.specs.FirstFault.{◌>>=◌, provided}
use Rattle.pq_words.specs.Text.{Text}

-- a judgement that never gives want of memory
abbrev IsOfBytes : {X : Type 0} → Result X DatFault → Type 0
IsOfBytes r = (e : DatFault) → r ≡ Err e → e ≢ fault.OutOfMemory

of_ok : {X : Type 0} (x : X) → IsOfBytes (Ok x)
of_ok x e found = absurd cc

of_provided : (test : Bool) (f : DatFault) → f ≢ fault.OutOfMemory → IsOfBytes (provided test f (tt {0}))
of_provided true f is e found = absurd cc
of_provided false f is e found = let same : f ≡ e = cc in λ free. is (same ∙ free)

of_missing : (at : ℕ) (p : Option ℕ) → IsOfBytes (none_missing at p)
of_missing at None e found = absurd cc
of_missing at (Some p) e found = λ free. cc

of_both : {X Y : Type 0} (r : Result X DatFault) (next : X → Result Y DatFault) → IsOfBytes r →
    ((x : X) → IsOfBytes (next x)) → IsOfBytes (r >>= next)
of_both (Ok x) next first second e found = second x e found
of_both (Err f) next first second e found = let same : f ≡ e = cc in λ free. first f refl (same ∙ free)

of_record : (size : ℕ) (positions : List ℕ) (dat : Text) (index : ℕ) →
    IsOfBytes (judged_record size positions dat index)
of_record size positions dat index =
    let bytes = record_at size dat index in
    of_both (provided (is_whole size dat index) (fault.Short (index + 1)) (tt {0})) _
    (of_provided (is_whole size dat index) (fault.Short (index + 1)) (λ free. cc))
    (λ whole. of_both
    (provided (is_numbered size dat index) (fault.Number (index + 1) (number_in bytes)) (tt {0})) _
    (of_provided (is_numbered size dat index) (fault.Number (index + 1) (number_in bytes)) (λ free. cc))
    (λ numbered. of_missing (index + 1) (find (is_missing bytes) positions)))

-- several judgements, and one after them
of_several : (judged : ℕ → Result (Unit {0}) DatFault) (last : Result (Unit {0}) DatFault) →
    ((index : ℕ) → IsOfBytes (judged index)) → IsOfBytes last → (low n : ℕ) →
    IsOfBytes (first_fault (map judged (range_with_len low n) ++ last ∷ []))
of_several judged last each end low zero =
    of_both last (λ good. Ok tt) end (λ good. of_ok (tt {0}))
of_several judged last each end low (suc n) =
    of_both (judged low) (λ good. first_fault (map judged (range_with_len (low + 1) n) ++ last ∷ []))
    (each low)
    (λ good. of_several judged last each end (low + 1) n)

pub none_for_memory : NoneForMemory
unfolding samples_of
none_for_memory c s dat =
    let size = record_size c in
    let n = c.endsamp in
    of_both (judged_dat size s.positions dat n) (λ good. Ok (recording_of c s dat))
    (of_several (judged_record size s.positions dat) (judged_end size dat n)
    (of_record size s.positions dat)
    (of_provided (nat_le (length dat) (size * n)) (fault.Long (length dat - size * n)) (λ free. cc)) 0 n)
    (λ good. of_ok (recording_of c s dat))
