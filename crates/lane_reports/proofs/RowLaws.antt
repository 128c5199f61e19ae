-- Bytes that grow row by row.
use Rattle.std.proofs.Common.{◌≡◌, ℕ, ◌+◌, List, ◌++◌, length, take, drop, Option, refl, sym, ap, ◌∙◌, subst, arith, append_assoc, length-append}
use Rattle.std.proofs.KnownBytes.{Appends-trans}
use Rattle.std.proofs.Math.Seq.{take-append-add, take-length}
use Rattle.std.proofs.lemmas.Grind.{flat_map-append}
use Rattle.std.proofs.lemmas.List.{take-append-drop}
use Rattle.std.specs.Io.KnownBytes.{Appends}
use Rattle.lane_workers.specs.Printing.{BreaksAmong}
use Rattle.pq_base.specs.Outside.{AppendsFront}
use Rattle.pq_course.specs.TopCall.{Writing, HasTakenFront}
use Rattle.pq_items.specs.declared.item.Item.{Item}
use Rattle.pq_report.specs.ReportText.{header, item_row, item_rows, rows_text}
use Rattle.pq_time.specs.declared.clock.Clock.{Clock}
use Rattle.pq_words.specs.Text.{Text}

-- the rows of two lists are those of the first, and then those of the second
rows_parted : (clock : Clock) (first second : List Item) →
    rows_text clock (first ++ second) ≡ rows_text clock first ++ item_rows clock second
rows_parted clock first second =
    ap (λ (rows : Text). header ++ rows) (flat_map-append (item_row clock) first second)
    ∙ sym (append_assoc header (item_rows clock first) (item_rows clock second))

-- the rows of the first items, and the others
rows_cut : (clock : Clock) (items : List Item) (k : ℕ) →
    rows_text clock items ≡ rows_text clock (take k items) ++ item_rows clock (drop k items)
rows_cut clock items k = ap (rows_text clock) (sym (take-append-drop k items))
    ∙ rows_parted clock (take k items) (drop k items)

-- a front of text that was taken after another text
pub front_after : (a b c : Option Text) (text more : Text) → Appends a b text → AppendsFront b c more →
    AppendsFront a c (text ++ more)
front_after a b c text more so_far front =
    let fits = front.within in
    let size = length-append text more in
    record {
      count = length text + front.count;
      within = omega arith;
      bytes = subst (Appends a c) (sym (take-append-add text more front.count))
          (Appends-trans a b c text (take front.count more) so_far front.bytes);
    }

-- a front of the rows of more items was taken after those of others: it breaks off among them
pub more_cut_off : (clock : Clock) (a b c : Option Text) (more : List Item) →
    AppendsFront b c (item_rows clock more) →
    BreaksAmong (λ items. Appends a b (rows_text clock items)) more
    (λ items. AppendsFront a c (rows_text clock items))
more_cut_off clock a b c more front = (
  length more,
  omega arith,
  λ items so_far. subst (AppendsFront a c)
      (sym (rows_parted clock items more)
      ∙ ap (λ some. rows_text clock (items ++ some)) (sym (take-length more)))
      (front_after a b c (rows_text clock items) (item_rows clock more) so_far front),
)

-- ---- fronts of the rows of all items

front_taken : (w : Writing) (part rest text : Text) → text ≡ part ++ rest →
    AppendsFront w.taken_before w.taken_after part → HasTakenFront w text
front_taken w part rest text is front = (
  take front.count part,
  drop front.count part ++ rest,
  is ∙ ap (λ (l : Text). l ++ rest) (sym (take-append-drop front.count part))
      ∙ append_assoc (take front.count part) (drop front.count part) rest,
  front.bytes,
)

-- the rows of the first items were taken, or a front of them
pub rows_taken : (clock : Clock) (items : List Item) (k : ℕ) (w : Writing) →
    Appends w.taken_before w.taken_after (rows_text clock (take k items)) →
    HasTakenFront w (rows_text clock items)
rows_taken clock items k w taken =
    (rows_text clock (take k items), item_rows clock (drop k items), rows_cut clock items k, taken)

pub rows_cut_off : (clock : Clock) (items : List Item) (k : ℕ) (w : Writing) →
    AppendsFront w.taken_before w.taken_after (rows_text clock (take k items)) →
    HasTakenFront w (rows_text clock items)
rows_cut_off clock items k w front = front_taken w (rows_text clock (take k items))
    (item_rows clock (drop k items)) (rows_text clock items) (rows_cut clock items k) front

-- a front of the header
pub header_front : (clock : Clock) (items : List Item) (w : Writing) →
    AppendsFront w.taken_before w.taken_after header → HasTakenFront w (rows_text clock items)
header_front clock items w front =
    front_taken w header (item_rows clock items) (rows_text clock items) refl front
