-- The subject: the items that a text reports, or its first fault, read from left to right. All of it is
-- profile.
use Rattle.std.specs.Prelude.{◌≡◌, ◌↔◌, ℕ, ◌+◌, ◌*◌, ◌^◌, Bool, true, false, ◌&&◌, ◌==◌, nat_le, nat_lt, if◌then◌else◌, [], ◌∷◌, List, ℤ, pos, ◌-ℤ◌, Option, Some, None, option_map, option_and_then, unwrap_or, ok_or, find, bytes_eq, Result, Ok, Err, decimal}
use Rattle.std.specs.List.{AllByRecursion}
use Rattle.std.specs.declared.alloc.Global.{Global}
use Rattle.std.specs.declared.vec.Vec.{Vec}
use Rattle.pq_items.specs.declared.item.Item.{Item}
use Rattle.pq_items.specs.declared.item.Item.TheVariants as item
use Rattle.pq_items.specs.declared.limits.TheConstants.{MOST_TICK}
use Rattle.pq_report.specs.ReportText.{IsReportable, header_fields, kind_word, mark_word, place_text, rows_text, second_text}
use Rattle.pq_report.specs.declared.cutting.RowFields.{RowFields}
use Rattle.pq_report.specs.declared.fault.ReportFault.{ReportFault}
use Rattle.pq_report.specs.declared.fault.ReportFault.TheVariants as fault
use Rattle.pq_report.specs.declared.kind.ItemKind.{ItemKind}
use Rattle.pq_report.specs.declared.kind.ItemKind.TheVariants as kind
use Rattle.pq_report.specs.declared.row_items.RowSpan.{RowSpan}
use Rattle.pq_time.specs.declared.clock.Clock.{Clock}
use Rattle.pq_words.specs.First.{first_between}
use Rattle.pq_words.specs.FirstFault.{◌>>=◌, GivesUnless, provided}
use Rattle.pq_words.specs.Text.{Text, parted_at, digits_between}
use Rattle.pq_words.specs.declared.limits.TheConstants.{MOST_NUMBER, MOST_SAMPLES}

-- ---- one field: the value whose text in the table it is

-- the kinds, as they are listed
abbrev pub kinds : List ItemKind
kinds = kind.Frequency ∷ kind.Basic ∷ kind.Short ∷ kind.Ten ∷ kind.TwoHour ∷ kind.Dip ∷ kind.Swell
    ∷ kind.Interruption ∷ []

unfoldable pub kind_read : Text → Option ItemKind
kind_read field = find (λ k. bytes_eq field (kind_word k)) kinds

-- the value, where it passes
abbrev pub passing : {A : Type 0} → (A → Bool) → Option A → Option A
passing test value = option_and_then (λ x. if test x then Some x else None) value

-- the number of 64 bits whose decimal text the field is: without a sign, without leading zeros
unfoldable pub number_read : Text → Option ℕ
number_read field =
    passing (λ n. nat_lt n (2 ^ 64) && bytes_eq field (decimal n)) (digits_between 1 20 field)

-- 0 exactly for frequency, else a number of the configuration
abbrev pub is_channel_of : ItemKind → ℕ → Bool
is_channel_of kind.Frequency n = n == 0
is_channel_of _ n = nat_le 1 n && nat_le n MOST_NUMBER

abbrev pub is_place : ℕ → Bool
is_place n = nat_le n MOST_SAMPLES

-- a basic interval has 10 or 12 cycles, a 150/180-cycle interval 15 basic ones, a 2-hour interval 12 of 10
-- minutes, an event none
abbrev pub is_count_of : ItemKind → ℕ → Bool
is_count_of kind.Frequency n = true
is_count_of kind.Basic n = if n == 10 then true else n == 12
is_count_of kind.Short n = n == 15
is_count_of kind.Ten n = true
is_count_of kind.TwoHour n = n == 12
is_count_of kind.Dip n = n == 0
is_count_of kind.Swell n = n == 0
is_count_of kind.Interruption n = n == 0

-- the k-th of the seconds that a tick can be
abbrev pub second_at : ℕ → ℤ
second_at k = pos k -ℤ pos MOST_TICK

-- the first of them whose moment the field is
unfoldable pub second_read : Text → Option ℤ
second_read field = option_map second_at
    (first_between (λ k. bytes_eq field (second_text (second_at k))) 0 (2 * MOST_TICK + 1))

-- a kind that begins at ticks
abbrev pub has_ticks : ItemKind → Bool
has_ticks kind.Frequency = true
has_ticks kind.Ten = true
has_ticks kind.TwoHour = true
has_ticks _ = false

-- a tick, or for the other kinds nothing
abbrev pub tick_read : ItemKind → Text → Option (Option ℤ)
tick_read kind field = if has_ticks kind then option_map Some (second_read field)
    else (if bytes_eq field [] then Some None else None)

abbrev pub mark_read : ItemKind → Text → Option Bool
mark_read kind field = if bytes_eq field (mark_word kind true) then Some true
    else (if bytes_eq field (mark_word kind false) then Some false else None)

-- ---- one row: its item, or the number of its first field at fault

-- the fields of a row, in order
abbrev pub field_list : RowFields → List Text
field_list f = f.kind.now ∷ f.channel.now ∷ f.start.now ∷ f.end.now ∷ f.from.now ∷ f.to.now ∷ f.tick.now
    ∷ f.value.now ∷ f.count.now ∷ f.mark.now ∷ []

-- the first six
unfoldable pub span_read : Clock → Text → Text → Text → Text → Text → Text → Result RowSpan ℕ
span_read clock word channel start end from to = do
  k ← ok_or (kind_read word) 1
  c ← ok_or (passing (is_channel_of k) (number_read channel)) 2
  s ← ok_or (passing is_place (number_read start)) 3
  e ← ok_or (passing is_place (number_read end)) 4
  f ← provided (bytes_eq from (place_text clock s)) 5 s
  t ← provided (bytes_eq to (place_text clock e)) 6 e
  Ok (record { kind = k; channel = c; start = f; end = t })

-- the item of a kind with these fields
abbrev pub item_of : ItemKind → ℕ → ℕ → ℕ → ℤ → ℕ → ℕ → Bool → Item
item_of kind.Frequency channel start end tick value count mark =
    item.Frequency tick start end count value mark
item_of kind.Basic channel start end tick value count mark = item.Basic channel start end count value mark
item_of kind.Short channel start end tick value count mark = item.Short channel start end value mark
item_of kind.Ten channel start end tick value count mark = item.Ten channel tick start end count value mark
item_of kind.TwoHour channel start end tick value count mark = item.TwoHour channel tick start end value mark
item_of kind.Dip channel start end tick value count mark = item.Dip channel start end value mark
item_of kind.Swell channel start end tick value count mark = item.Swell channel start end value mark
item_of kind.Interruption channel start end tick value count mark =
    item.Interruption channel start end value mark

abbrev pub item_with : RowSpan → Option ℤ → ℕ → ℕ → Bool → Item
item_with span tick value count mark =
    item_of span.kind span.channel span.start span.end (unwrap_or tick (pos 0)) value count mark

-- the last four
unfoldable pub item_read : RowSpan → Text → Text → Text → Text → Result Item ℕ
item_read span tick value count mark = do
  t ← ok_or (tick_read span.kind tick) 7
  v ← ok_or (number_read value) 8
  c ← ok_or (passing (is_count_of span.kind) (number_read count)) 9
  m ← ok_or (mark_read span.kind mark) 10
  Ok (item_with span t v c m)

-- the same, of the fields of a row
abbrev pub span_of : Clock → RowFields → Result RowSpan ℕ
span_of clock f = span_read clock f.kind.now f.channel.now f.start.now f.end.now f.from.now f.to.now

abbrev pub item_behind : RowSpan → RowFields → Result Item ℕ
item_behind span f = item_read span f.tick.now f.value.now f.count.now f.mark.now

-- a row has ten fields, else the fault is field 0
unfoldable pub fields_read : Clock → List Text → Result Item ℕ
fields_read clock (word ∷ channel ∷ start ∷ end ∷ from ∷ to ∷ tick ∷ value ∷ count ∷ mark ∷ []) = do
  span ← span_read clock word channel start end from to
  item_read span tick value count mark
fields_read clock _ = Err 0

-- whether a list has ten entries
abbrev pub are_ten : List Text → Bool
are_ten (a ∷ b ∷ c ∷ d ∷ e ∷ f ∷ g ∷ h ∷ i ∷ j ∷ []) = true
are_ten _ = false

-- the names of the fields, from the number of the first on: the first that differs is at fault
abbrev pub names_read : ℕ → List Text → List Text → Result (Unit {0}) ℕ
names_read n (name ∷ names) (field ∷ fields) = if bytes_eq field name then names_read (n + 1) names fields
    else Err n
names_read n _ _ = Ok (tt {0})

unfoldable pub header_read : List Text → Result (Unit {0}) ℕ
header_read fields = do
  ten ← provided (are_ten fields) 0 (tt {0})
  names_read 1 header_fields fields

-- ---- all of it: rows are ended by LF, and their fields parted by commas

-- a fault of a row, with its number
abbrev pub in_row : {A : Type 0} → ℕ → Result A ℕ → Result A ReportFault
in_row row (Ok x) = Ok x
in_row row (Err field) = Err (fault.Field row field)

-- the items of rows, from the number of the first on; what stands behind the last line end is a row at fault
unfoldable pub rows_read : Clock → ℕ → List Text → Result (List Item) ReportFault
rows_read clock row [] = Ok []
rows_read clock row (rest ∷ []) = provided (bytes_eq rest []) (fault.Field row 0) []
rows_read clock row (first ∷ second ∷ others) = do
  i ← in_row row (fields_read clock (parted_at 44 first))
  items ← rows_read clock (row + 1) (second ∷ others)
  Ok (i ∷ items)

-- the header row, and the rows of items from row 2 on
unfoldable pub parts_read : Clock → List Text → Result (List Item) ReportFault
parts_read clock (first ∷ second ∷ others) = do
  named ← in_row 1 (header_read (parted_at 44 first))
  rows_read clock 2 (second ∷ others)
parts_read clock _ = Err (fault.Field 1 0)

-- the items that a text reports, or its first fault
abbrev pub report_read : Clock → Text → Result (List Item) ReportFault
report_read clock text = parts_read clock (parted_at 10 text)

-- what a function that reads a report answers: the items or the fault that are read, or that there is no
-- memory
abbrev pub GivesItems : Result (Vec Item Global) ReportFault → Result (List Item) ReportFault → Type 0
GivesItems result read = GivesUnless fault.OutOfMemory (λ v. v.items) result read

-- what is read is the text of its items, in range; and the text of items in range is read as they are
abbrev pub ReadsBack : Type 0
ReadsBack = (clock : Clock) (text : Text) (items : List Item) →
    (report_read clock text ≡ Ok items) ↔ (AllByRecursion IsReportable items × (text ≡ rows_text clock items))
