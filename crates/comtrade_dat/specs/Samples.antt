-- The subject: the samples that a dat gives for a configuration and a selection, or its first fault (C37.111,
-- binary data record; the order of faults and the rounding: profile).
use Rattle.std.specs.Prelude.{◌≡◌, ◌≢◌, ℕ, ◌+◌, ◌-◌, ◌*◌, ◌%◌, ◌^◌, Bool, ◌||◌, ◌==◌, nat_le, List, [], ◌∷◌, ◌++◌, length, map, find, ℤ, Option, Some, None, Result, Ok, Err}
use Rattle.std.specs.List.{range_with_len}
use Rattle.std.specs.Ordering.{int_eq}
use Rattle.comtrade_cfg.specs.Configuration.{Configuration}
use Rattle.comtrade_cfg.specs.Selecting.{Selected, coefficients_at}
use Rattle.comtrade_cfg.specs.declared.voltage.Coefficients.{Coefficients}
use Rattle.comtrade_dat.specs.BinaryRecord.{count_in, number_in, record_at, size_with, words_for}
use Rattle.comtrade_dat.specs.declared.dat_fault.DatFault.{DatFault}
use Rattle.comtrade_dat.specs.declared.dat_fault.DatFault.TheVariants as fault
use Rattle.comtrade_dat.specs.declared.limits.TheConstants.{MISSING_COUNT}
use Rattle.pq_base.specs.Recorded.{Recorded}
use Rattle.pq_base.specs.Sample.{sample_of}
use Rattle.pq_words.specs.FirstFault.{◌>>=◌, GivesUnless, provided}
use Rattle.pq_words.specs.Text.{Text}

-- ---- what is judged of one record

-- its bytes are all there
abbrev pub is_whole : ℕ → Text → ℕ → Bool
is_whole size dat index = nat_le (size * (index + 1)) (length dat)

-- the first may have any number, each other has that of the record before plus one, modulo 2^32
abbrev pub is_numbered : ℕ → Text → ℕ → Bool
is_numbered size dat index = (index == 0)
    || (number_in (record_at size dat index) == (number_in (record_at size dat (index - 1)) + 1) % 2 ^ 32)

-- the channel at this position has no count in it
abbrev pub is_missing : Text → ℕ → Bool
is_missing bytes position = int_eq (count_in bytes position) MISSING_COUNT

-- a channel without a count is told by the numbers of record and channel, from 1
abbrev pub none_missing : ℕ → Option ℕ → Result (Unit {0}) DatFault
none_missing at None = Ok tt
none_missing at (Some position) = Err (fault.Missing at (position + 1))

-- the record at an index: its bytes, its number, the counts at these positions
abbrev pub judged_record : ℕ → List ℕ → Text → ℕ → Result (Unit {0}) DatFault
judged_record size positions dat index = do
  let bytes : Text = record_at size dat index
  whole ← provided (is_whole size dat index) (fault.Short (index + 1)) (tt {0})
  numbered ← provided (is_numbered size dat index) (fault.Number (index + 1) (number_in bytes)) (tt {0})
  none_missing (index + 1) (find (is_missing bytes) positions)

-- ---- what is judged of a dat

-- the first fault of several judgements
abbrev pub first_fault : List (Result (Unit {0}) DatFault) → Result (Unit {0}) DatFault
first_fault [] = Ok tt
first_fault (judged ∷ more) = do
  good ← judged
  first_fault more

-- no byte is left after n records
abbrev pub judged_end : ℕ → Text → ℕ → Result (Unit {0}) DatFault
judged_end size dat n =
    provided (nat_le (length dat) (size * n)) (fault.Long (length dat - size * n)) (tt {0})

-- the judgements of the first n records
abbrev pub judged_records : ℕ → List ℕ → Text → ℕ → List (Result (Unit {0}) DatFault)
judged_records size positions dat n = map (judged_record size positions dat) (range_with_len 0 n)

-- n records, one after another, and then the end
abbrev pub judged_dat : ℕ → List ℕ → Text → ℕ → Result (Unit {0}) DatFault
judged_dat size positions dat n =
    first_fault (judged_records size positions dat n ++ judged_end size dat n ∷ [])

-- ---- the recording

-- how many bytes a record of this configuration has
abbrev pub record_size : Configuration → ℕ
record_size c = size_with (length c.analogue) (words_for (length c.status))

-- the sample of the channel at a position, in the record at an index
abbrev pub sample_at : Coefficients → ℕ → ℕ → Text → ℕ → ℤ
sample_at k size position dat index = sample_of k.a k.b (count_in (record_at size dat index) position)

-- its samples, one for each of n records
abbrev pub channel_samples : Coefficients → ℕ → ℕ → Text → ℕ → List ℤ
channel_samples k size position dat n = map (sample_at k size position dat) (range_with_len 0 n)

-- the recording that a configuration, a selection and a good dat make
abbrev pub recording_of : Configuration → Selected → Text → Recorded
recording_of c s dat = record {
  t0 = c.first;
  rate = c.rate;
  lf = c.lf;
  numbers = map (λ p. p + 1) s.positions;
  reference = s.reference;
  samples = map (λ p. channel_samples (coefficients_at c p) (record_size c) p dat c.endsamp) s.positions;
}

-- the recording, or the first fault of the dat
unfoldable pub samples_of : Configuration → Selected → Text → Result Recorded DatFault
samples_of c s dat = do
  good ← judged_dat (record_size c) s.positions dat c.endsamp
  Ok (recording_of c s dat)

-- what a function that reads may answer: the value, the first fault, or want of memory
abbrev pub Gives : {X : Type 0} → Result X DatFault → Result X DatFault → Type 0
Gives result read = GivesUnless fault.OutOfMemory (λ x. x) result read

-- the law of faults: no dat is refused for want of memory
abbrev pub NoneForMemory : Type 0
NoneForMemory = (c : Configuration) (s : Selected) (dat : Text) (e : DatFault) → samples_of c s dat ≡ Err e →
    e ≢ fault.OutOfMemory
