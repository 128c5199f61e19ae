-- The subject: the text of the report. All of it is profile.
use Rattle.std.specs.Prelude.{◌≡◌, ℕ, ◌<◌, ◌^◌, Bool, true, false, if◌then◌else◌, [], ◌∷◌, ◌++◌, List, ℤ, Option, Result, OnOk, codes, decimal}
use Rattle.std.specs.List.{flat_map}
use Rattle.std.specs.Option.{option_map_or}
use Rattle.std.specs.declared.alloc.Global.{Global}
use Rattle.std.specs.declared.vec.Vec.{Vec}
use Rattle.csv.specs.Writing.{default_writer, row_text}
use Rattle.pq_items.specs.ItemRange.{IsItemInRange}
use Rattle.pq_items.specs.ItemTable.{channel_of, start_of, end_of, tick_of, value_of, count_of, has_mark}
use Rattle.pq_items.specs.declared.item.Item.{Item}
use Rattle.pq_items.specs.declared.item.Item.TheVariants as item
use Rattle.pq_report.specs.declared.kind.ItemKind.{ItemKind}
use Rattle.pq_report.specs.declared.kind.ItemKind.TheVariants as kind
use Rattle.pq_time.specs.Printed.{printed_moment}
use Rattle.pq_time.specs.Tick.{moment_of}
use Rattle.pq_time.specs.Time.{time_of}
use Rattle.pq_time.specs.declared.clock.Clock.{Clock}
use Rattle.pq_words.specs.Text.{Text, joined_by}

-- ---- fields

-- the kind of an item
abbrev pub kind_of : Item → ItemKind
kind_of (item.Frequency tick start end cycles microhertz flagged) = kind.Frequency
kind_of (item.Basic channel start end cycles value flagged) = kind.Basic
kind_of (item.Short channel start end value flagged) = kind.Short
kind_of (item.Ten channel tick start end basics value flagged) = kind.Ten
kind_of (item.TwoHour channel tick start end value flagged) = kind.TwoHour
kind_of (item.Dip channel start end value is_open) = kind.Dip
kind_of (item.Swell channel start end value is_open) = kind.Swell
kind_of (item.Interruption channel start end value is_open) = kind.Interruption

-- the word of a kind
abbrev pub kind_word : ItemKind → Text
kind_word kind.Frequency = codes "freq"
kind_word kind.Basic = codes "basic"
kind_word kind.Short = codes "short"
kind_word kind.Ten = codes "ten"
kind_word kind.TwoHour = codes "two"
kind_word kind.Dip = codes "dip"
kind_word kind.Swell = codes "swell"
kind_word kind.Interruption = codes "interruption"

-- a dip, a swell or an interruption; the others are records
abbrev pub is_event : ItemKind → Bool
is_event kind.Dip = true
is_event kind.Swell = true
is_event kind.Interruption = true
is_event _ = false

-- a record is flagged or clear, an event is open or closed
abbrev pub flag_word : Bool → Text
flag_word true = codes "flagged"
flag_word false = codes "clear"

abbrev pub open_word : Bool → Text
open_word true = codes "open"
open_word false = codes "closed"

abbrev pub mark_word : ItemKind → Bool → Text
mark_word kind mark = if is_event kind then open_word mark else flag_word mark

-- from, to: the moment at which the sample at a place is taken
abbrev pub place_text : Clock → ℕ → Text
place_text clock place = printed_moment (time_of clock place)

-- the moment of a tick, a UTC second
abbrev pub second_text : ℤ → Text
second_text second = printed_moment (moment_of second)

-- tick: its moment; empty where there is none
abbrev pub tick_text : Option ℤ → Text
tick_text tick = option_map_or second_text tick []

-- the ten fields of an item
abbrev pub row_fields : Clock → Item → List Text
row_fields clock i = kind_word (kind_of i) ∷ decimal (channel_of i) ∷ decimal (start_of i)
    ∷ decimal (end_of i) ∷ place_text clock (start_of i) ∷ place_text clock (end_of i)
    ∷ tick_text (tick_of i) ∷ decimal (value_of i) ∷ decimal (count_of i)
    ∷ mark_word (kind_of i) (has_mark i) ∷ []

-- the ten names of the fields
abbrev pub header_fields : List Text
header_fields = codes "kind" ∷ codes "channel" ∷ codes "start" ∷ codes "end" ∷ codes "from" ∷ codes "to"
    ∷ codes "tick" ∷ codes "value" ∷ codes "count" ∷ codes "mark" ∷ []

-- ---- rows

-- fields with a comma between each two, and a line end
abbrev pub row_of : List Text → Text
row_of fields = joined_by 44 fields ++ 10 ∷ []

-- the header row
unfoldable pub header : Text
header = row_of header_fields

-- the row of an item
unfoldable pub item_row : Clock → Item → Text
item_row clock i = row_of (row_fields clock i)

-- a row for each item
abbrev pub item_rows : Clock → List Item → Text
item_rows clock items = flat_map (item_row clock) items

-- the text of a report: the header, and a row for each item
abbrev pub rows_text : Clock → List Item → Text
rows_text clock items = header ++ item_rows clock items

-- ---- how rows are written

-- fields, each before a comma
abbrev pub before_commas : List Text → Text
before_commas fields = flat_map (λ field. field ++ 44 ∷ []) fields

-- the first four fields, the three moments and the last three fields
abbrev pub span_fields : Text → ℕ → ℕ → ℕ → List Text
span_fields kind channel start end = kind ∷ decimal channel ∷ decimal start ∷ decimal end ∷ []

abbrev pub moment_fields : Clock → ℕ → ℕ → Option ℤ → List Text
moment_fields clock start end tick = place_text clock start ∷ place_text clock end ∷ tick_text tick ∷ []

abbrev pub value_fields : ℕ → ℕ → Text → List Text
value_fields value count mark = decimal value ∷ decimal count ∷ mark ∷ []

-- a part of a text was pushed, or there was no memory for it
abbrev pub Pushes : {E : Type 0} → Result (Unit {0}) E → Vec ℕ Global → Vec ℕ Global → Text → Type 0
Pushes result old new part = OnOk result (new.items ≡ old.items ++ part)

-- an item of a report: in range, with numbers of 64 bits
pub record IsReportable (i : Item) : Type 0 where
  pub range : IsItemInRange i
  pub value : value_of i < 2 ^ 64
  pub count : count_of i < 2 ^ 64

-- the row that a writer of comma-separated values with its defaults writes of these fields
unfoldable pub csv_row : List Text → Text
csv_row fields = row_text default_writer fields

-- it writes the row of an item as the definition does: no field needs quotes
abbrev pub NeedsNoQuotes : Type 0
NeedsNoQuotes = (clock : Clock) (i : Item) → IsReportable i → csv_row (row_fields clock i) ≡ item_row clock i
