-- What is read of a report is its text, and its text is read.
use Rattle.std.proofs.Common.{◌≡◌, ℕ, ◌+◌, ◌≤◌, Bool, true, false, ◌==◌, nat_le, if◌then◌else◌, List, [], ◌∷◌, ◌++◌, All, flat_map, length, get_or, bytes_eq, Result, Ok, Err, refl, sym, ap, ◌∙◌, subst, arith, append_assoc, codes, drop, IfOk}
use Rattle.std.proofs.lemmas.Bool.Decides.{nat_tests}
use Rattle.std.proofs.lemmas.List.Elements.{All-from_recursion}
use Rattle.std.proofs.lemmas.List.Folds.{list_all-append}
use Rattle.std.proofs.lemmas.List.Splits.{slice_split_at, slice_split_none, join_with_byte-slice_split}
use Rattle.std.proofs.lemmas.List.Sums.{AllPass-from_list_all}
use Rattle.std.proofs.lemmas.Slice.Eq.{bytes_eq-Decides}
use Rattle.std.specs.List.{AllByRecursion, list_all}
use Rattle.std.specs.declared.alloc.Global.{Global}
use Rattle.std.specs.declared.vec.Vec.{Vec}
use Rattle.pq_items.specs.ItemRange.{IsItemInRange}
use Rattle.pq_items.specs.declared.item.Item.{Item}
use Rattle.pq_report.specs.ReportReading.{GivesItems, ReadsBack, are_ten, fields_read, header_read, in_row, names_read, parts_read, report_read, rows_read}
use Rattle.pq_report.specs.ReportText.{IsReportable, header, header_fields, item_row, kind_of, kind_word, row_fields, row_of, rows_text}
use Rattle.pq_report.specs.declared.fault.ReportFault.{ReportFault}
use Rattle.pq_report.specs.declared.fault.ReportFault.TheVariants as fault
use Rattle.pq_report.proofs.DigitLemmas.{both}
use Rattle.pq_report.proofs.FieldBackLemmas.{front_true}
use Rattle.pq_report.proofs.ItemBackLemmas.{fields_are}
use Rattle.pq_report.proofs.PlainLemmas.{IsPlain, is_plain}
use Rattle.pq_report.proofs.QuoteLemmas.{plain_item, plain_names}
use Rattle.pq_report.proofs.ReadingLaws.{bind_value, report_cons, rows_cons}
use Rattle.pq_report.proofs.RowBackLemmas.{fields_back}
use Rattle.pq_time.specs.declared.clock.Clock.{Clock}
use Rattle.pq_time.proofs.FieldLemmas.{some_part}
use Rattle.pq_words.specs.FirstFault.{provided}
use Rattle.pq_words.specs.Text.{Text, joined_by, parted_at}
use Rattle.pq_words.proofs.ReadingLemmas.{bind_ok, provided_ok}

-- ---- fields that are joined are cut apart

not_comma : (b : ℕ) → is_plain b ≡ true → (b == 44) ≡ false
not_comma b plain = grind (arith, nat_tests, plain)

no_comma : (text : Text) → IsPlain text → All (λ b. (b == 44) ≡ false) text
no_comma text plain = λ k d inside. not_comma (get_or text k d)
    (AllPass-from_list_all is_plain text plain k d inside)

parted_joined : (f : Text) (fields : List Text) → AllByRecursion IsPlain (f ∷ fields) →
    parted_at 44 (joined_by 44 (f ∷ fields)) ≡ f ∷ fields
parted_joined f [] h = slice_split_none (λ b. b == 44) f (no_comma f h.0)
parted_joined f (g ∷ fields) h =
    slice_split_at (λ b. b == 44) f 44 (joined_by 44 (g ∷ fields)) (no_comma f h.0) refl
    ∙ ap (λ rest. f ∷ rest) (parted_joined g fields h.1)

-- ---- rows that are joined are cut apart

-- plain bytes and commas
abbrev is_inner : ℕ → Bool
is_inner b = nat_le 44 b

plain_inner : (text : Text) → IsPlain text → list_all is_inner text ≡ true
plain_inner [] h = refl
plain_inner (b ∷ text) h =
    let parts = front_true (is_plain b) (list_all is_plain text) h in
    let first : is_inner b ≡ true = grind (arith, nat_tests, parts.0) in
    both (is_inner b) (list_all is_inner text) first (plain_inner text parts.1)

inner_joined : (f : Text) (fields : List Text) → AllByRecursion IsPlain (f ∷ fields) →
    list_all is_inner (joined_by 44 (f ∷ fields)) ≡ true
inner_joined f [] h = plain_inner f h.0
inner_joined f (g ∷ fields) h = list_all-append is_inner f (44 ∷ joined_by 44 (g ∷ fields))
    ∙ both (list_all is_inner f) (list_all is_inner (joined_by 44 (g ∷ fields))) (plain_inner f h.0)
    (inner_joined g fields h.1)

not_line_end : (b : ℕ) → is_inner b ≡ true → (b == 10) ≡ false
not_line_end b inner = grind (arith, nat_tests, inner)

no_line_end : (text : Text) → list_all is_inner text ≡ true → All (λ b. (b == 10) ≡ false) text
no_line_end text inner = λ k d inside. not_line_end (get_or text k d)
    (AllPass-from_list_all is_inner text inner k d inside)

-- a row before other bytes
row_parts : (f : Text) (fields : List Text) (rest : Text) → AllByRecursion IsPlain (f ∷ fields) →
    parted_at 10 (row_of (f ∷ fields) ++ rest) ≡ joined_by 44 (f ∷ fields) ∷ parted_at 10 rest
row_parts f fields rest h = ap (parted_at 10) (append_assoc (joined_by 44 (f ∷ fields)) (10 ∷ []) rest)
    ∙ slice_split_at (λ b. b == 10) (joined_by 44 (f ∷ fields)) 10 rest
    (no_line_end (joined_by 44 (f ∷ fields)) (inner_joined f fields h)) refl

-- ---- from the items to what is read

-- the row of an item is read as it is
row_back : (clock : Clock) (n : ℕ) (i : Item) → IsReportable i →
    in_row n (fields_read clock (parted_at 44 (joined_by 44 (row_fields clock i)))) ≡ Ok i
row_back clock n i h = ap (λ fields. in_row n (fields_read clock fields))
    (parted_joined (kind_word (kind_of i)) (drop 1 (row_fields clock i)) (plain_item clock i h))
    ∙ ap (in_row n) (fields_back clock i h)

rows_back : (clock : Clock) (n : ℕ) (items : List Item) → AllByRecursion IsReportable items →
    rows_read clock n (parted_at 10 (flat_map (item_row clock) items)) ≡ Ok items
unfolding item_row rows_read
rows_back clock n [] h = refl
rows_back clock n (i ∷ items) h =
    let rest = flat_map (item_row clock) items in
    ap (rows_read clock n) (row_parts (kind_word (kind_of i)) (drop 1 (row_fields clock i)) rest
    (plain_item clock i h.0))
    ∙ rows_cons clock n (joined_by 44 (row_fields clock i)) (parted_at 10 rest) (some_part 10 rest)
    ∙ bind_value (in_row n (fields_read clock (parted_at 44 (joined_by 44 (row_fields clock i))))) _ i
    (row_back clock n i h.0)
    ∙ bind_value (rows_read clock (n + 1) (parted_at 10 rest)) (λ more. Ok (i ∷ more)) items
    (rows_back clock (n + 1) items h.1)

header_back : in_row 1 (header_read (parted_at 44 (joined_by 44 header_fields))) ≡ Ok (tt {0})
unfolding header_read
header_back = ap (λ fields. in_row 1 (header_read fields))
    (parted_joined (codes "kind") (drop 1 header_fields) plain_names)

report_back : (clock : Clock) (items : List Item) → AllByRecursion IsReportable items →
    report_read clock (rows_text clock items) ≡ Ok items
unfolding header
report_back clock items h =
    let rest = flat_map (item_row clock) items in
    ap (parts_read clock) (row_parts (codes "kind") (drop 1 header_fields) rest plain_names)
    ∙ report_cons clock (joined_by 44 header_fields) (parted_at 10 rest) (some_part 10 rest)
    ∙ bind_value (in_row 1 (header_read (parted_at 44 (joined_by 44 header_fields)))) _ (tt {0}) header_back
    ∙ rows_back clock 2 items h

-- ---- from what is read to the text

in_row_ok : {A : Type 0} (n : ℕ) (r : Result A ℕ) (x : A) → in_row n r ≡ Ok x → r ≡ Ok x
in_row_ok n (Ok y) x is = ap Ok (let same : y ≡ x = cc in same)
in_row_ok n (Err e) x is = absurd cc

-- a row that was read is that of its item
row_is : (clock : Clock) (n : ℕ) (line : Text) (i : Item) → in_row n (fields_read clock
    (parted_at 44 line)) ≡ Ok i →
    (line ≡ joined_by 44 (row_fields clock i)) × IsReportable i
row_is clock n line i is =
    let h = fields_are clock (parted_at 44 line) i (in_row_ok n (fields_read clock
    (parted_at 44 line)) i is) in
    (sym (join_with_byte-slice_split 44 line) ∙ ap (joined_by 44) h.0, h.1)

rows_are : (clock : Clock) (n : ℕ) (parts : List Text) (items : List Item) → 1 ≤ length parts →
    rows_read clock n parts ≡ Ok items →
    (joined_by 10 parts ≡ flat_map (item_row clock) items) × AllByRecursion IsReportable items
unfolding item_row rows_read
rows_are clock n [] items some is = absurd (omega (arith, some))
rows_are clock n (rest ∷ []) items some is =
    let h = provided_ok (bytes_eq rest []) (fault.Field n 0) [] items is in
    let empty : rest ≡ [] = (bytes_eq-Decides rest []).0 h.0 in (
      empty ∙ ap (flat_map (item_row clock)) h.1,
      subst (AllByRecursion IsReportable) h.1 tt,
    )
rows_are clock n (first ∷ second ∷ others) items some is =
    let (i, row_ok, after) = bind_ok (in_row n (fields_read clock (parted_at 44 first))) _ items is in
    let (more, rows_ok, done) = bind_ok (rows_read clock (n + 1) (second ∷ others)) _ items after in
    let row = row_is clock n first i row_ok in
    let rest = rows_are clock (n + 1) (second ∷ others) more (omega arith) rows_ok in
    let made : (i ∷ more) ≡ items = cc in (
      ap (λ line. line ++ 10 ∷ joined_by 10 (second ∷ others)) row.0
          ∙ ap (λ text. joined_by 44 (row_fields clock i) ++ 10 ∷ text) rest.0
          ∙ sym (append_assoc (joined_by 44 (row_fields clock i)) (10 ∷ []) (flat_map (item_row clock) more))
          ∙ ap (flat_map (item_row clock)) made,
      subst (AllByRecursion IsReportable) made (row.1, rest.1),
    )

names_are : (n : ℕ) (names fields : List Text) → length names ≡ length fields →
    names_read n names fields ≡ Ok (tt {0}) → fields ≡ names
names_are n [] [] long is = refl
names_are n [] (field ∷ fields) long is = absurd (omega (arith, long))
names_are n (name ∷ names) [] long is = absurd (omega (arith, long))
names_are n (name ∷ names) (field ∷ fields) long is =
    at (bytes_eq field name) refl (names_are (n + 1) names fields (omega (arith, long))) is
  where
    at : (b : Bool) → bytes_eq field name ≡ b → (names_read (n + 1) names fields ≡ Ok (tt {0}) →
        fields ≡ names) →
        (if b then names_read (n + 1) names fields else Err n) ≡ Ok (tt {0}) →
        (field ∷ fields) ≡ (name ∷ names)
    at true test rest e = λ k. (bytes_eq-Decides field name).0 test k ∷ rest e k
    at false test rest e = absurd cc

ten_long : (fields : List Text) → are_ten fields ≡ true → 10 ≡ length fields
ten_long [] is = absurd cc
ten_long (a ∷ []) is = absurd cc
ten_long (a ∷ b ∷ []) is = absurd cc
ten_long (a ∷ b ∷ c ∷ []) is = absurd cc
ten_long (a ∷ b ∷ c ∷ d ∷ []) is = absurd cc
ten_long (a ∷ b ∷ c ∷ d ∷ e ∷ []) is = absurd cc
ten_long (a ∷ b ∷ c ∷ d ∷ e ∷ f ∷ []) is = absurd cc
ten_long (a ∷ b ∷ c ∷ d ∷ e ∷ f ∷ g ∷ []) is = absurd cc
ten_long (a ∷ b ∷ c ∷ d ∷ e ∷ f ∷ g ∷ h ∷ []) is = absurd cc
ten_long (a ∷ b ∷ c ∷ d ∷ e ∷ f ∷ g ∷ h ∷ i ∷ []) is = absurd cc
ten_long (a ∷ b ∷ c ∷ d ∷ e ∷ f ∷ g ∷ h ∷ i ∷ j ∷ []) is = refl
ten_long (a ∷ b ∷ c ∷ d ∷ e ∷ f ∷ g ∷ h ∷ i ∷ j ∷ k ∷ fields) is = absurd cc

unit_is : (u : Unit {0}) → u ≡ tt {0}
unit_is u = refl

header_is : (line : Text) (named : Unit {0}) → in_row 1 (header_read (parted_at 44 line)) ≡ Ok named →
    line ≡ joined_by 44 header_fields
unfolding header_read
header_is line named is =
    let fields = parted_at 44 line in
    let read = in_row_ok 1 (header_read fields) named is in
    let (ten, ten_ok, after) = bind_ok (provided (are_ten fields) 0 (tt {0})) _ named read in
    let long = ten_long fields (provided_ok (are_ten fields) 0 (tt {0}) ten ten_ok).0 in
    sym (join_with_byte-slice_split 44 line) ∙ ap (joined_by 44) (names_are 1 header_fields fields long after)

parts_are : (clock : Clock) (parts : List Text) (items : List Item) → parts_read clock parts ≡ Ok items →
    (joined_by 10 parts ≡ rows_text clock items) × AllByRecursion IsReportable items
unfolding parts_read header
parts_are clock [] items is = absurd cc
parts_are clock (rest ∷ []) items is = absurd cc
parts_are clock (first ∷ second ∷ others) items is =
    let (named, header_ok, after) = bind_ok (in_row 1 (header_read (parted_at 44 first))) _ items is in
    let line = header_is first named header_ok in
    let rest = rows_are clock 2 (second ∷ others) items (omega arith) after in (
      ap (λ text. text ++ 10 ∷ joined_by 10 (second ∷ others)) line
          ∙ ap (λ text. joined_by 44 header_fields ++ 10 ∷ text) rest.0
          ∙ sym (append_assoc (joined_by 44 header_fields) (10 ∷ []) (flat_map (item_row clock) items)),
      rest.1,
    )

all_in_range : (items : List Item) → AllByRecursion IsReportable items → AllByRecursion IsItemInRange items
all_in_range [] h = tt
all_in_range (i ∷ items) h = (h.0.range, all_in_range items h.1)

-- items that were read are in range
pub given_within : (clock : Clock) (text : Text) (r : Result (Vec Item Global) ReportFault) →
    GivesItems r (report_read clock text) → IfOk r (λ items. All IsItemInRange items.items)
given_within clock text (Ok items) is = All-from_recursion IsItemInRange items.items
    (all_in_range items.items (parts_are clock (parted_at 10 text) items.items is).1)
given_within clock text (Err e) is = tt

-- reading and writing are each other's way back
pub reads_back : ReadsBack
reads_back clock text items = (
  (λ is.
      let h = parts_are clock (parted_at 10 text) items is in
      (h.1, sym (join_with_byte-slice_split 10 text) ∙ h.0)),
  λ h. ap (report_read clock) h.1 ∙ report_back clock items h.0,
)
