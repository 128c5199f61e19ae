-- Worked values, so that a wrong rule in the specs does not check.
use Rattle.std.proofs.Common.{◌≡◌, ℕ, [], ◌∷◌, ◌++◌, List, map, take, refl, pos, negsuc, ℤ, Result, Ok, Err}
use Rattle.std.specs.Prelude.{slice_set}
use Rattle.comtrade_cfg.specs.declared.voltage.Coefficients.{Coefficients}
use Rattle.comtrade_dat.specs.BinaryRecord.{RecordFields, count_in, fields_in, number_in, record_at, record_bytes, size_with, words_for}
use Rattle.comtrade_dat.specs.ReadBack.{dat_of}
use Rattle.comtrade_dat.specs.Samples.{channel_samples, judged_dat}
use Rattle.comtrade_dat.specs.declared.dat_fault.DatFault.{DatFault}
use Rattle.comtrade_dat.specs.declared.dat_fault.DatFault.TheVariants as fault
use Rattle.pq_base.specs.Sample.{sample_of}
use Rattle.pq_words.specs.Text.{Text}

-- ---- records

-- two counts with no, 1, 16, 17 and 999 status channels
pub sizes : map (λ status. size_with 2 (words_for status)) (0 ∷ 1 ∷ 16 ∷ 17 ∷ 999 ∷ [])
    ≡ 12 ∷ 14 ∷ 14 ∷ 16 ∷ 138 ∷ []
sizes = refl

-- records 1, 2, 7 and 14 of two_intervals: counts 0, 2588, 10000 and -2588
abbrev some_records : Text
some_records =
    (1 ∷ 0 ∷ 0 ∷ 0 ∷ 0 ∷ 0 ∷ 0 ∷ 0 ∷ 0x00 ∷ 0x00 ∷ []) ++ (2 ∷ 0 ∷ 0 ∷ 0 ∷ 0 ∷ 0 ∷ 0 ∷ 0 ∷ 0x1c ∷ 0x0a ∷ [])
    ++ (7 ∷ 0 ∷ 0 ∷ 0 ∷ 0 ∷ 0 ∷ 0 ∷ 0 ∷ 0x10 ∷ 0x27 ∷ [])
    ++ (14 ∷ 0 ∷ 0 ∷ 0 ∷ 0 ∷ 0 ∷ 0 ∷ 0 ∷ 0xe4 ∷ 0xf5 ∷ [])

pub made : record_bytes 1 0 (pos 0 ∷ []) [] ++ record_bytes 2 0 (pos 2588 ∷ []) []
    ++ record_bytes 7 0 (pos 10000 ∷ []) [] ++ record_bytes 14 0 (negsuc 2587 ∷ []) []
    ≡ some_records
made = refl

pub read : (map (λ r. number_in (record_at 10 some_records r)) (0 ∷ 1 ∷ 2 ∷ 3 ∷ []) ≡ 1 ∷ 2 ∷ 7 ∷ 14 ∷ [])
    × (map (λ r. count_in (record_at 10 some_records r) 0) (0 ∷ 1 ∷ 2 ∷ 3 ∷ [])
    ≡ pos 0 ∷ pos 2588 ∷ pos 10000 ∷ negsuc 2587 ∷ [])
read = (refl, refl)

-- wide_record: two counts and two status words, 16 bytes, each field lowest byte first
pub wide_record : fields_in 2 2
    (0x78 ∷ 0x56 ∷ 0x34 ∷ 0x12 ∷ 4 ∷ 3 ∷ 2 ∷ 1 ∷ 0x1c ∷ 0x0a ∷ 0x00 ∷ 0x80 ∷ 1 ∷ 0 ∷ 0xff ∷ 0x02 ∷ [])
    ≡ record {
      number = 0x12345678;
      stamp = 0x01020304;
      counts = pos 2588 ∷ negsuc 32767 ∷ [];
      states = 1 ∷ 0x2ff ∷ [];
    }
wide_record = refl

-- ---- samples

-- at 0.0325 V a count
abbrev coefficients : Coefficients
coefficients = record { a = pos 32500000000; b = pos 0 }

pub known_samples : channel_samples coefficients 10 0 some_records 4
    ≡ pos 0 ∷ pos 84110000 ∷ pos 325000000 ∷ negsuc 84109999 ∷ []
unfolding sample_of
known_samples = refl

-- a half of a microvolt is rounded away from zero
pub known_roundings : map (sample_of (pos 500000) (pos 1)) (pos 0 ∷ pos 1 ∷ negsuc 0 ∷ negsuc 2 ∷ [])
    ≡ pos 0 ∷ pos 1 ∷ pos 0 ∷ negsuc 0 ∷ []
unfolding sample_of
known_roundings = refl

-- ---- faults

-- records of one count of 2588, with these numbers
abbrev numbered : List ℕ → Text
numbered numbers = dat_of (map (λ n. let row : RecordFields =
    record { number = n; stamp = 0; counts = pos 2588 ∷ []; states = [] } in row) numbers)

abbrev judged : Text → Result (Unit {0}) DatFault
judged dat = judged_dat 10 (0 ∷ []) dat 3

abbrev three : Text
three = numbered (1 ∷ 2 ∷ 3 ∷ [])

-- without its last byte, with one more, and with 7 for the third number; with no byte at all
pub dat_cut_long_misnumbered : map judged
    (three ∷ take 29 three ∷ (three ++ 0 ∷ []) ∷ slice_set three 20 7 ∷ [] ∷ [])
    ≡ Ok (tt {0}) ∷ Err (fault.Short 3) ∷ Err (fault.Long 1) ∷ Err (fault.Number 3 7) ∷ Err (fault.Short 1) ∷
    []
dat_cut_long_misnumbered = refl

-- the first number may be any; after 4294967295 comes 0
pub numbers : map judged (numbered (4294967295 ∷ 0 ∷ 1 ∷ []) ∷ numbered (77 ∷ 78 ∷ 79 ∷ []) ∷ numbered
    (1 ∷ 1 ∷ 2 ∷ [])
    ∷ numbered (4294967295 ∷ 4294967295 ∷ 0 ∷ []) ∷ [])
    ≡ Ok (tt {0}) ∷ Ok (tt {0}) ∷ Err (fault.Number 2 1) ∷ Err (fault.Number 2 4294967295) ∷ []
numbers = refl

-- -32768 is no count, -32767 is one
pub missing_count : map judged (slice_set (slice_set three 18 0) 19 0x80 ∷ slice_set (slice_set three 18 1) 19
    0x80 ∷ [])
    ≡ Err (fault.Missing 2 1) ∷ Ok (tt {0}) ∷ []
missing_count = refl

-- the first record at fault is told, and in it bytes before number before count; the end comes last
pub first_of_several : map judged
    (take 29 (slice_set three 20 7) ∷ slice_set (slice_set (slice_set three 20 7) 28 0) 29 0x80
    ∷ slice_set (slice_set (slice_set three 18 0) 19 0x80) 20 7
    ∷ (slice_set (slice_set three 28 0) 29 0x80 ++ 0 ∷ []) ∷ [])
    ≡ Err (fault.Short 3) ∷ Err (fault.Number 3 7) ∷ Err (fault.Missing 2 1) ∷ Err (fault.Missing 3 1) ∷ []
first_of_several = refl

-- of three channels the second and third are selected: the least of these without a count is told, and the
-- first may have none
abbrev of_three : ℤ → ℤ → ℤ → Text
of_three a b c = record_bytes 1 0 (a ∷ b ∷ c ∷ []) []

pub selected_alone : map (λ dat. judged_dat 14 (1 ∷ 2 ∷ []) dat 1)
    (of_three (negsuc 32767) (pos 1) (pos 2) ∷ of_three (pos 0) (negsuc 32767) (negsuc 32767)
    ∷ of_three (pos 0) (pos 1) (negsuc 32767) ∷ [])
    ≡ Ok (tt {0}) ∷ Err (fault.Missing 1 2) ∷ Err (fault.Missing 1 3) ∷ []
selected_alone = refl
