-- The subject: records that are judged and read by themselves, as a dat comes in pieces. A run is bytes of a
-- dat from the beginning of a record on.
use Rattle.std.specs.Prelude.{◌≡◌, ◌≢◌, ℕ, ◌+◌, ◌-◌, ◌%◌, ◌^◌, ◌<◌, ◌≤◌, Bool, true, ◌==◌, if◌then◌else◌, List, map, find, Option, Some, None, Result}
use Rattle.std.specs.List.{range_with_len}
use Rattle.comtrade_dat.specs.BinaryRecord.{count_in, number_in, record_at}
use Rattle.comtrade_dat.specs.Samples.{is_missing, none_missing}
use Rattle.comtrade_dat.specs.declared.dat_fault.DatFault.{DatFault}
use Rattle.comtrade_dat.specs.declared.dat_fault.DatFault.TheVariants as fault
use Rattle.comtrade_dat.specs.declared.limits.TheConstants.{MISSING_COUNT}
use Rattle.comtrade_dat.specs.declared.run_start.RunStart.{RunStart}
use Rattle.pq_words.specs.FirstFault.{◌>>=◌, provided}
use Rattle.pq_words.specs.Text.{Text}

-- the sample number of the record before the one at an index of a run, of which the first follows this one
abbrev pub number_before : ℕ → Option ℕ → Text → ℕ → Option ℕ
number_before size before run index =
    if index == 0 then before else Some (number_in (record_at size run (index - 1)))

-- a number follows that of the record before, where there is one
abbrev pub is_numbered_after : Option ℕ → ℕ → Bool
is_numbered_after None number = true
is_numbered_after (Some before) number = number == (before + 1) % 2 ^ 32

-- the bytes of a whole record, which is this one of the dat, from 1
abbrev pub judged_bytes : List ℕ → Option ℕ → ℕ → Text → Result (Unit {0}) DatFault
judged_bytes positions before at bytes = do
  numbered ← provided (is_numbered_after before (number_in bytes)) (fault.Number at (number_in bytes))
      (tt {0})
  none_missing at (find (is_missing bytes) positions)

-- the record at an index of a run
abbrev pub judged_in : ℕ → List ℕ → RunStart → Text → ℕ → Result (Unit {0}) DatFault
judged_in size positions start run index =
    judged_bytes positions (number_before size start.before run index) (start.index + index + 1)
    (record_at size run index)

-- the judgements of the first n records of a run
abbrev pub judged_run : ℕ → List ℕ → RunStart → Text → ℕ → List (Result (Unit {0}) DatFault)
judged_run size positions start run n = map (judged_in size positions start run) (range_with_len 0 n)

-- where the run that is left after n records begins
abbrev pub start_after : ℕ → RunStart → Text → ℕ → RunStart
start_after size start run n = record {
  index = start.index + n;
  before = number_before size start.before run n;
}

-- where the run that is left after the first n records of a dat begins
abbrev pub start_at : ℕ → Text → ℕ → RunStart
start_at size dat n = record { index = n; before = number_before size None dat n }

-- the numbers of the records from an index to another, which is not included, follow those before them
abbrev pub AreNumbered : ℕ → Option ℕ → Text → ℕ → ℕ → Type 0
AreNumbered size before run from end = (index : ℕ) → from ≤ index → index < end →
    is_numbered_after (number_before size before run index) (number_in (record_at size run index)) ≡ true

-- each of these records has a count at this position
abbrev pub HaveCounts : ℕ → Text → ℕ → ℕ → ℕ → Type 0
HaveCounts size run from end position = (index : ℕ) → from ≤ index → index < end →
    count_in (record_at size run index) position ≢ MISSING_COUNT
