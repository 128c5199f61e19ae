-- The subject: one binary data record: sample number, time stamp, analogue counts, status words, lowest byte
-- first (C37.111, binary data record). Time stamps and status words are not judged.
use Rattle.std.specs.Prelude.{ℕ, ◌+◌, ◌*◌, ◌/◌, List, ◌++◌, drop, map, slice_range, ℤ}
use Rattle.std.specs.Int.{w16, cast_signed, cast_unsigned}
use Rattle.std.specs.List.{flat_map, range_with_len}
use Rattle.byteorder.specs.Endian.{little_bytes, little_number}
use Rattle.pq_words.specs.Text.{Text}

-- the status words of so many status channels: sixteen share a word
abbrev pub words_for : ℕ → ℕ
words_for status = (status + 15) / 16

-- how many bytes a record has, of so many counts and status words
abbrev pub size_with : ℕ → ℕ → ℕ
size_with counts words = 8 + 2 * counts + 2 * words

-- the record at an index from 0
abbrev pub record_at : ℕ → Text → ℕ → Text
record_at size dat index = slice_range dat (size * index) (size * (index + 1))

-- the sample number of a record
abbrev pub number_in : Text → ℕ
number_in bytes = little_number 4 bytes

-- its time stamp
abbrev pub stamp_in : Text → ℕ
stamp_in bytes = little_number 4 (drop 4 bytes)

-- the count of the analogue channel at a position from 0, in two's complement
abbrev pub count_in : Text → ℕ → ℤ
count_in bytes position = cast_signed w16 (little_number 2 (drop (8 + 2 * position) bytes))

-- the status word at an index from 0, after so many counts
abbrev pub word_in : ℕ → Text → ℕ → ℕ
word_in counts bytes index = little_number 2 (drop (8 + 2 * counts + 2 * index) bytes)

-- the bytes of a count and of a status word
abbrev pub count_bytes : ℤ → Text
count_bytes count = little_bytes 2 (cast_unsigned w16 count)

abbrev pub word_bytes : ℕ → Text
word_bytes word = little_bytes 2 word

-- the bytes of a record
abbrev pub record_bytes : ℕ → ℕ → List ℤ → List ℕ → Text
record_bytes number stamp counts states =
    little_bytes 4 number ++ little_bytes 4 stamp ++ flat_map count_bytes counts ++ flat_map word_bytes states

-- what a record says
pub record RecordFields : Type 0 where
  pub number : ℕ
  pub stamp : ℕ
  pub counts : List ℤ
  pub states : List ℕ

-- the same in its bytes
abbrev pub bytes_of : RecordFields → Text
bytes_of fields = record_bytes fields.number fields.stamp fields.counts fields.states

-- what the bytes of a record say, of so many counts and status words
abbrev pub fields_in : ℕ → ℕ → Text → RecordFields
fields_in counts words bytes = record {
  number = number_in bytes;
  stamp = stamp_in bytes;
  counts = map (count_in bytes) (range_with_len 0 counts);
  states = map (word_in counts bytes) (range_with_len 0 words);
}
