-- The laws of records, both ways: what their bytes are made of is what is read of them (C37.111, binary data
-- record).
use Rattle.std.specs.Prelude.{◌≡◌, ◌≢◌, ℕ, ◌+◌, ◌%◌, ◌^◌, ◌<◌, List, length, map, slice_index_or, All, ℤ, pos, Ok}
use Rattle.std.specs.Int.{w16}
use Rattle.std.specs.Int.RustNames.{FitsSigned}
use Rattle.std.specs.List.{flat_map}
use Rattle.comtrade_cfg.specs.Configuration.{Configuration}
use Rattle.comtrade_cfg.specs.Selecting.{IsSelected, Selected, coefficients_at}
use Rattle.comtrade_cfg.specs.declared.voltage.Coefficients.{Coefficients}
use Rattle.comtrade_dat.specs.BinaryRecord.{RecordFields, bytes_of, fields_in, record_at, size_with, words_for}
use Rattle.comtrade_dat.specs.Samples.{samples_of}
use Rattle.comtrade_dat.specs.declared.limits.TheConstants.{MISSING_COUNT}
use Rattle.pq_base.specs.Recorded.{Recorded}
use Rattle.pq_base.specs.Sample.{sample_of}
use Rattle.pq_words.specs.Text.{Text}

-- fields of so many counts and status words, each of which its bytes can hold
pub record HasShape (counts words : ℕ) (fields : RecordFields) : Type 0 where
  pub number : fields.number < 2 ^ 32
  pub stamp : fields.stamp < 2 ^ 32
  pub signed : All (FitsSigned w16) fields.counts
  pub unsigned : All (λ word. word < 2 ^ 16) fields.states
  pub as_many_counts : length fields.counts ≡ counts
  pub as_many_words : length fields.states ≡ words

-- a dat of such records, one after another
abbrev pub dat_of : List RecordFields → Text
dat_of records = flat_map bytes_of records

-- the law of records
pub record RecordsReadBack : Type 0 where
  -- what the bytes of a record are made of is what they say
  pub read : (counts words : ℕ) (fields : RecordFields) → HasShape counts words fields →
      fields_in counts words (bytes_of fields) ≡ fields
  -- bytes of a record's length are made of what they say
  pub made : (counts words : ℕ) (bytes : Text) → All (λ byte. byte < 256) bytes →
      length bytes ≡ size_with counts words → bytes_of (fields_in counts words bytes) ≡ bytes
  -- and in a dat each record stands at its index
  pub placed : (counts words : ℕ) (records : List RecordFields) (index : ℕ) (none : RecordFields) →
      All (HasShape counts words) records → index < length records →
      record_at (size_with counts words) (dat_of records) index ≡ bytes_of (slice_index_or records index none)

-- the count of the channel at a position
abbrev pub count_of : RecordFields → ℕ → ℤ
count_of fields position = slice_index_or fields.counts position (pos 0)

-- its samples
abbrev pub samples_from : Coefficients → ℕ → List RecordFields → List ℤ
samples_from k position records = map (λ fields. sample_of k.a k.b (count_of fields position)) records

-- a record is numbered after another
abbrev pub IsNumberedAfter : RecordFields → RecordFields → Type 0
IsNumberedAfter before fields = fields.number ≡ (before.number + 1) % 2 ^ 32

-- records that have no fault: each is numbered after the one before, and has a count at each of the positions
pub record AreGood (positions : List ℕ) (records : List RecordFields) : Type 0 where
  pub numbered : (index : ℕ) (none : RecordFields) → index + 1 < length records →
      IsNumberedAfter (slice_index_or records index none) (slice_index_or records (index + 1) none)
  pub counted : All (λ fields. All (λ position. count_of fields position ≢ MISSING_COUNT) positions) records

-- the recording that they make
abbrev pub recording_from : Configuration → Selected → List RecordFields → Recorded
recording_from c s records = record {
  t0 = c.first;
  rate = c.rate;
  lf = c.lf;
  numbers = map (λ p. p + 1) s.positions;
  reference = s.reference;
  samples = map (λ p. samples_from (coefficients_at c p) p records) s.positions;
}

-- the law of dats: records of a configuration, as many as it says and with no fault, make their recording
abbrev pub DatsReadBack : Type 0
DatsReadBack = (c : Configuration) (s : Selected) (records : List RecordFields) → IsSelected c s →
    All (HasShape (length c.analogue) (words_for (length c.status))) records → length records ≡ c.endsamp →
    AreGood s.positions records → samples_of c s (dat_of records) ≡ Ok (recording_from c s records)
