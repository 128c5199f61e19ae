-- The subject: the recording that a number makes, its seed: a sine on three channels, disturbed ten times,
-- as the bytes of its cfg and its dat. All of it is this project's choice (profile), but for the record,
-- which is that of C37.111, binary data record.
use Rattle.std.specs.Prelude.{ℕ, zero, suc, ◌+◌, ◌-◌, ◌*◌, ◌/◌, ◌%◌, ◌^◌, Bool, ◌&&◌, ◌==◌, nat_le, nat_lt, if◌then◌else◌, List, [], ◌∷◌, ◌++◌, map, fold, slice_index_or, ℤ, pos, neg_ℤ, ◌*ℤ◌, int_div, codes}
use Rattle.std.specs.Int.{w16, w32, cast_unsigned, to_le_bytes}
use Rattle.std.specs.List.{flat_map}
use Rattle.pq_generate.specs.declared.disturbance.Disturbance.{Disturbance}
use Rattle.pq_generate.specs.declared.disturbance.Manner.{Manner}
use Rattle.pq_generate.specs.declared.disturbance.Manner.TheVariants.{Zeroed, Halved, Raised}
use Rattle.pq_words.specs.Steps.{numbers_below, numbers_from}
use Rattle.pq_words.specs.Text.{Text}

-- ---- disturbances

-- the number after x
abbrev pub next_number : ℕ → ℕ
next_number x = (6364136223846793005 * x + 1442695040888963407) % 2 ^ 64

-- the number so many steps after x
unfoldable pub number_after : ℕ → ℕ → ℕ
number_after x zero = x
number_after x (suc steps) = next_number (number_after x steps)

-- what is made of counts: nothing for 0, a half for 1, six fifths for 2
abbrev pub manner_of : ℕ → Manner
manner_of zero = Zeroed
manner_of (suc zero) = Halved
manner_of (suc (suc more)) = Raised

-- the disturbance of an index that a number gives: up to 50 cycles of a channel, within the 3000 of its index
unfoldable pub disturbance_by : ℕ → ℕ → Disturbance
disturbance_by index x = record {
  first_cycle = 3000 * index + 100 + (x / 2 ^ 33) % 2000;
  cycles = 1 + (x / 2 ^ 20) % 50;
  channel = 1 + (x / 2 ^ 10) % 3;
  manner = manner_of ((x / 2 ^ 5) % 3);
}

-- that of a seed: by the first number after it for index 0, by the next one for the next index
abbrev pub disturbance_of : ℕ → ℕ → Disturbance
disturbance_of seed index = disturbance_by index (number_after seed (suc index))

-- the ten of a seed
abbrev pub disturbances : ℕ → List Disturbance
disturbances seed = map (disturbance_of seed) (numbers_below 10)

-- ---- counts

-- half a cycle of the sine, from zero upwards, and the whole cycle of 24 samples
abbrev pub half_sine : List ℕ
half_sine = 0 ∷ 2588 ∷ 5000 ∷ 7071 ∷ 8660 ∷ 9659 ∷ 10000 ∷ 9659 ∷ 8660 ∷ 7071 ∷ 5000 ∷ 2588 ∷ []

abbrev pub sine : List ℤ
sine = map pos half_sine ++ map (λ count. neg_ℤ (pos count)) half_sine

-- a disturbance lies on a channel in a cycle
abbrev pub lies_on : Disturbance → ℕ → ℕ → Bool
lies_on d channel cycle =
    (d.channel == channel) && (nat_le d.first_cycle cycle && nat_lt cycle (d.first_cycle + d.cycles))

-- what a manner makes of a count, toward zero
abbrev pub changed : Manner → ℤ → ℤ
changed Zeroed count = pos 0
changed Halved count = int_div count (pos 2)
changed Raised count = int_div (pos 6 *ℤ count) (pos 5)

-- what a disturbance makes of a count: it is changed where the disturbance lies
abbrev pub disturbed : ℕ → ℕ → ℤ → Disturbance → ℤ
disturbed channel cycle count d = if lies_on d channel cycle then changed d.manner count else count

-- the same by several, one after another
abbrev pub disturbed_by : List Disturbance → ℕ → ℕ → ℤ → ℤ
disturbed_by ds channel cycle count = fold (disturbed channel cycle) count ds

-- the count of a channel at sample i, from 0: the sine's, disturbed
unfoldable pub count_at : List Disturbance → ℕ → ℕ → ℤ
count_at ds channel i = disturbed_by ds channel (i / 24) (slice_index_or sine (i % 24) (pos 0))

-- what channels 1, 2 and 3 have
abbrev pub on_channels : (ℕ → ℤ) → List ℤ
on_channels count_on = count_on 1 ∷ count_on 2 ∷ count_on 3 ∷ []

-- ---- files

-- the bytes of a record, lowest byte first: its number, the stamp 0, its counts in two's complement
abbrev pub record_bytes : ℕ → List ℤ → Text
record_bytes number counts =
    to_le_bytes w32 number ++ to_le_bytes w32 0
    ++ flat_map (λ count. to_le_bytes w16 (cast_unsigned w16 count)) counts

-- the record of sample i: records are numbered from 1
unfoldable pub record_at : List Disturbance → ℕ → Text
record_at ds i = record_bytes (i + 1) (on_channels (λ channel. count_at ds channel i))

-- the records of the samples from one to another, which is not included
unfoldable pub records_between : List Disturbance → ℕ → ℕ → Text
records_between ds low high = flat_map (record_at ds) (numbers_from low (high - low))

-- the dat: the records of 722,400 samples
abbrev pub dat_text : ℕ → Text
dat_text seed = records_between (disturbances seed) 0 722400

-- the lines of the cfg
abbrev pub cfg_lines : List Text
cfg_lines =
    codes "generated,pqa,1999"
    ∷ codes "3,3A,0D"
    ∷ codes "1,UA,A,,V,0.0325,0,0,-32767,32767,1,1,P"
    ∷ codes "2,UB,B,,V,0.0325,0,0,-32767,32767,1,1,P"
    ∷ codes "3,UC,C,,V,0.0325,0,0,-32767,32767,1,1,P"
    ∷ codes "50"
    ∷ codes "1"
    ∷ codes "1200,722400"
    ∷ codes "01/03/2024,11:59:59.000000"
    ∷ codes "01/03/2024,11:59:59.000000"
    ∷ codes "BINARY"
    ∷ codes "1"
    ∷ []

-- the cfg: each of them ended by CR LF
unfoldable pub cfg_text : Text
cfg_text = flat_map (λ line. line ++ 13 ∷ 10 ∷ []) cfg_lines
