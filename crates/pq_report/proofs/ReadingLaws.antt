-- The rows of a report, one after another.
use Rattle.std.proofs.Common.{◌≡◌, ℕ, ◌+◌, ◌≤◌, ◌==◌, inr, subst, IsErrAnd, Bool, true, false, List, [], ◌∷◌, ◌++◌, length, bytes_eq, Result, Ok, Err, refl, sym, ap, ◌∙◌, append_assoc, arith}
use Rattle.std.proofs.lemmas.Bool.Decides.{nat_tests}
use Rattle.std.proofs.lemmas.List.{append-nil}
use Rattle.std.specs.declared.alloc.Global.{Global}
use Rattle.std.specs.declared.vec.Vec.{Vec}
use Rattle.pq_items.specs.declared.item.Item.{Item}
use Rattle.pq_report.specs.ReportReading.{GivesItems, fields_read, header_read, in_row, parts_read, report_read, rows_read}
use Rattle.pq_report.specs.declared.fault.ReportFault.{ReportFault}
use Rattle.pq_report.specs.declared.fault.ReportFault.TheVariants as fault
use Rattle.pq_time.specs.declared.clock.Clock.{Clock}
use Rattle.pq_time.proofs.FieldLemmas.{some_part}
use Rattle.pq_words.specs.FirstFault.{◌>>=◌, provided}
use Rattle.pq_words.specs.Text.{Text, parted_at}

-- items, and those that are read after them
abbrev pub after_items : List Item → Result (List Item) ReportFault → Result (List Item) ReportFault
after_items front (Ok items) = Ok (front ++ items)
after_items front (Err e) = Err e

pub after_none : (r : Result (List Item) ReportFault) → after_items [] r ≡ r
after_none (Ok items) = refl
after_none (Err e) = refl

one_more : (front : List Item) (i : Item) (r : Result (List Item) ReportFault) →
    after_items front (r >>= λ items. Ok (i ∷ items)) ≡ after_items (front ++ i ∷ []) r
one_more front i (Ok items) = ap Ok (sym (append_assoc front (i ∷ []) items))
one_more front i (Err e) = refl

-- a row, and others behind it
pub rows_cons : (clock : Clock) (n : ℕ) (first : Text) (parts : List Text) → 1 ≤ length parts →
    rows_read clock n (first ∷ parts)
    ≡ (in_row n (fields_read clock (parted_at 44 first)) >>= λ i. rows_read clock
    (n + 1) parts >>= λ items. Ok (i ∷ items))
unfolding rows_read
rows_cons clock n first [] some = absurd (omega (arith, some))
rows_cons clock n first (second ∷ others) some = refl

bind_fault : {A B : Type 0} (r : Result A ReportFault) (f : A → Result B ReportFault) (e : ReportFault) →
    r ≡ Err e →
    (r >>= f) ≡ Err e
bind_fault r f e is = rw is refl

pub bind_value : {A B : Type 0} (r : Result A ReportFault) (f : A → Result B ReportFault) (x : A) → r ≡ Ok x →
    (r >>= f) ≡ f x
bind_value r f x is = rw is refl

-- a row at fault
pub rows_fault : (clock : Clock) (n : ℕ) (line after rest : Text) (front : List Item) (e : ReportFault) →
    parted_at 10 rest ≡ line ∷ parted_at 10 after → in_row n (fields_read clock (parted_at 44 line)) ≡ Err e →
    after_items front (rows_read clock n (parted_at 10 rest)) ≡ Err e
rows_fault clock n line after rest front e parts is =
    ap (after_items front) (ap (rows_read clock n) parts
    ∙ rows_cons clock n line (parted_at 10 after) (some_part 10 after)
    ∙ bind_fault (in_row n (fields_read clock (parted_at 44 line))) _ e is)

-- the row of an item
pub rows_item : (clock : Clock) (n : ℕ) (line after rest : Text) (front : List Item) (i : Item) →
    parted_at 10 rest ≡ line ∷ parted_at 10 after → in_row n (fields_read clock (parted_at 44 line)) ≡ Ok i →
    after_items front (rows_read clock n (parted_at 10 rest))
    ≡ after_items (front ++ i ∷ []) (rows_read clock (n + 1) (parted_at 10 after))
rows_item clock n line after rest front i parts is =
    ap (after_items front) (ap (rows_read clock n) parts
    ∙ rows_cons clock n line (parted_at 10 after) (some_part 10 after)
    ∙ bind_value (in_row n (fields_read clock (parted_at 44 line))) _ i is)
    ∙ one_more front i (rows_read clock (n + 1) (parted_at 10 after))

-- what stands behind the last line end
pub rows_end : (clock : Clock) (n : ℕ) (rest : Text) → parted_at 10 rest ≡ rest ∷ [] →
    rows_read clock n (parted_at 10 rest) ≡ provided (bytes_eq rest []) (fault.Field n 0) []
unfolding rows_read
rows_end clock n rest parts = ap (rows_read clock n) parts

after_end : (clock : Clock) (n : ℕ) (rest : Text) (front : List Item) (v : Bool) →
    parted_at 10 rest ≡ rest ∷ [] →
    bytes_eq rest [] ≡ v → after_items front (rows_read clock n (parted_at 10 rest))
    ≡ after_items front (provided v (fault.Field n 0) [])
after_end clock n rest front v parts is = ap (after_items front) (rows_end clock n rest parts
    ∙ ap (λ (b : Bool). provided b (fault.Field n 0) []) is)

empty_is : (rest : Text) (v : Bool) → v ≡ (length rest == 0) → bytes_eq rest [] ≡ v
empty_is [] v is = sym is
empty_is (b ∷ rest) true is = absurd (grind (arith, nat_tests))
empty_is (b ∷ rest) false is = refl

-- no row is left
pub rows_done : (clock : Clock) (n : ℕ) (rest : Text) (front : List Item) (empty : Bool) →
    parted_at 10 rest ≡ rest ∷ [] → empty ≡ (length rest == 0) → empty ≡ true →
    after_items front (rows_read clock n (parted_at 10 rest)) ≡ Ok front
rows_done clock n rest front empty parts test is =
    after_end clock n rest front true parts (empty_is rest empty test ∙ is) ∙ ap Ok (append-nil front)

-- a row without a line end is left
pub rows_unended : (clock : Clock) (n : ℕ) (rest : Text) (front : List Item) (empty : Bool) →
    parted_at 10 rest ≡ rest ∷ [] → empty ≡ (length rest == 0) → empty ≡ false →
    after_items front (rows_read clock n (parted_at 10 rest)) ≡ Err (fault.Field n 0)
rows_unended clock n rest front empty parts test is =
    after_end clock n rest front false parts (empty_is rest empty test ∙ is)

-- a fault that was passed on
pub fault_given : (r : Result (Vec Item Global) ReportFault) (e : ReportFault) (read : Result
    (List Item) ReportFault)
    → IsErrAnd r (λ x. x ≡ e) → read ≡ Err e → GivesItems r read
fault_given (Ok items) e read is found = absurd is
fault_given (Err x) e read is found = inr (found ∙ ap Err (sym is))

-- ---- the header, and the rows

-- the header row, and others behind it
pub report_cons : (clock : Clock) (first : Text) (parts : List Text) → 1 ≤ length parts →
    parts_read clock (first ∷ parts)
    ≡ (in_row 1 (header_read (parted_at 44 first)) >>= λ named. rows_read clock 2 parts)
unfolding parts_read
report_cons clock first [] some = absurd (omega (arith, some))
report_cons clock first (second ∷ others) some = refl

pub report_fault : (clock : Clock) (text line rows : Text) (e : ReportFault) →
    parted_at 10 text ≡ line ∷ parted_at 10 rows → in_row 1 (header_read (parted_at 44 line)) ≡ Err e →
    report_read clock text ≡ Err e
report_fault clock text line rows e parts is = ap (parts_read clock) parts
    ∙ report_cons clock line (parted_at 10 rows) (some_part 10 rows)
    ∙ bind_fault (in_row 1 (header_read (parted_at 44 line))) (λ named. rows_read clock 2
    (parted_at 10 rows)) e is

pub report_rows : (clock : Clock) (text line rows : Text) (named : Unit {0}) →
    parted_at 10 text ≡ line ∷ parted_at 10 rows → in_row 1 (header_read (parted_at 44 line)) ≡ Ok named →
    report_read clock text ≡ rows_read clock 2 (parted_at 10 rows)
report_rows clock text line rows named parts is = ap (parts_read clock) parts
    ∙ report_cons clock line (parted_at 10 rows) (some_part 10 rows)
    ∙ bind_value (in_row 1 (header_read (parted_at 44 line))) (λ named. rows_read clock 2
    (parted_at 10 rows)) named is

pub given_rows : (r : Result (Vec Item Global) ReportFault) (read whole : Result (List Item) ReportFault) →
    whole ≡ read → GivesItems r read → GivesItems r whole
given_rows r read whole same given = subst (GivesItems r) (sym same) given
