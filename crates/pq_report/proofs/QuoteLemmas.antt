-- A row of plain fields, as a writer of comma-separated values writes it.
use Rattle.std.proofs.Common.{◌≡◌, ℕ, zero, suc, ◌≤◌, ◌<◌, ◌^◌, Bool, true, false, ◌&&◌, ◌||◌, List, [], ◌∷◌, ◌++◌, refl, ap, ◌∙◌, arith, decimal, drop, codes, Result, Ok, Err, IfOk}
use Rattle.std.proofs.lemmas.Bool.Decides.{nat_tests}
use Rattle.std.proofs.lemmas.List.{append-nil}
use Rattle.std.specs.List.{AllByRecursion, list_all, list_any}
use Rattle.csv.specs.Writing.{default_writer, field_text, fields_text, is_blank, needs_byte, row_text}
use Rattle.pq_items.specs.ItemTable.{rank_of, channel_of, start_of, end_of, tick_of, value_of, count_of, has_mark}
use Rattle.pq_items.specs.declared.item.Item.{Item}
use Rattle.pq_report.specs.ReportText.{IsReportable, NeedsNoQuotes, csv_row, header, header_fields, item_row, kind_of, kind_word, row_fields, row_of}
use Rattle.pq_report.proofs.PlainLemmas.{IsPlain, is_plain, plain_decimal, plain_kind, plain_mark, plain_moment, plain_tick}
use Rattle.pq_time.specs.Time.{time_of}
use Rattle.pq_time.specs.declared.clock.Clock.{Clock}
use Rattle.pq_words.specs.Text.{Text, joined_by}

front_true : (a b : Bool) → (a && b) ≡ true → (a ≡ true) × (b ≡ true)
front_true true b e = (refl, e)
front_true false b e = absurd cc

plain_byte : (b : ℕ) → is_plain b ≡ true → needs_byte default_writer b ≡ false
plain_byte b e = grind (arith, nat_tests)

neither : (a b : Bool) → a ≡ false → b ≡ false → (a || b) ≡ false
neither false false e f = refl
neither false true e f = f
neither true b e f = e

no_quotes : (text : Text) → IsPlain text → list_any (needs_byte default_writer) text ≡ false
no_quotes [] e = refl
no_quotes (b ∷ text) e =
    let parts = front_true (is_plain b) (list_all is_plain text) e in
    neither (needs_byte default_writer b) (list_any (needs_byte default_writer) text) (plain_byte b parts.0)
    (no_quotes text parts.1)

plain_field : (text : Text) → IsPlain text → field_text default_writer text ≡ text
plain_field text e = rw (no_quotes text e) refl

-- the fields behind the first one
plain_fields : (f : Text) (rest : List Text) → AllByRecursion IsPlain rest →
    f ++ fields_text default_writer rest ≡ joined_by 44 (f ∷ rest)
unfolding fields_text
plain_fields f [] h = append-nil f
plain_fields f (g ∷ rest) h = ap (λ more. f ++ 44 ∷ more) (
    ap (λ field. field ++ fields_text default_writer rest) (plain_field g h.0) ∙ plain_fields g rest h.1)

-- two fields or more, none of which needs quotes
pub plain_row : (f g : Text) (rest : List Text) → AllByRecursion IsPlain (f ∷ g ∷ rest) →
    row_text default_writer (f ∷ g ∷ rest) ≡ row_of (f ∷ g ∷ rest)
unfolding is_blank
plain_row f g rest h = ap (λ text. text ++ 10 ∷ []) (
    ap (λ field. field ++ fields_text default_writer (g ∷ rest)) (plain_field f h.0)
    ∙ plain_fields f (g ∷ rest) h.1)

-- the header
pub plain_names : AllByRecursion IsPlain header_fields
plain_names = (refl, (refl, (refl, (refl, (refl, (refl, (refl, (refl, (refl, (refl, tt))))))))))

pub plain_header : csv_row header_fields ≡ header
unfolding csv_row header
plain_header = plain_row (codes "kind") (codes "channel") (drop 2 header_fields) plain_names

-- the channel of an item is small
small_channel : (rank channel : ℕ) → (rank ≡ 0 → channel ≡ 0) → (0 < rank → (0 < channel) × (channel ≤ 999)) →
    channel < 2 ^ 64
small_channel zero channel f g = let is : channel ≡ 0 = f refl in omega arith
small_channel (suc rank) channel f g = let is : channel ≤ 999 = (g (omega arith)).1 in omega arith

pub plain_item : (clock : Clock) (i : Item) → IsReportable i → AllByRecursion IsPlain (row_fields clock i)
plain_item clock i h =
    let channel = small_channel (rank_of i) (channel_of i) h.range.frequency h.range.others in (
      plain_kind (kind_of i),
      (
        plain_decimal (channel_of i) channel,
        (
          plain_decimal (start_of i) (omega (arith, h.range.start)),
          (
            plain_decimal (end_of i) (omega (arith, h.range.end)),
            (
              plain_moment (time_of clock (start_of i)),
              (
                plain_moment (time_of clock (end_of i)),
                (
                  plain_tick (tick_of i),
                  (
                    plain_decimal (value_of i) h.value,
                    (
                      plain_decimal (count_of i) h.count,
                      (plain_mark (kind_of i) (has_mark i), tt),
                    ),
                  ),
                ),
              ),
            ),
          ),
        ),
      ),
    )

pub needs_no_quotes : NeedsNoQuotes
unfolding csv_row item_row
needs_no_quotes clock i h =
    plain_row (kind_word (kind_of i)) (decimal (channel_of i)) (drop 2 (row_fields clock i))
    (plain_item clock i h)

-- a text that was written of the fields of an item is its row
pub written_row : {E : Type 0} (clock : Clock) (i : Item) (r : Result Text E) (fields : List Text) →
    IfOk r (λ text. text ≡ csv_row fields) → IsReportable i → fields ≡ row_fields clock i →
    IfOk r (λ text. text ≡ item_row clock i)
written_row clock i (Ok text) fields written h same =
    written ∙ ap csv_row same ∙ needs_no_quotes clock i h
written_row clock i (Err e) fields written h same = tt

-- ten fields, one by one
pub ten_fields : {a b c d e f g h i j a' b' c' d' e' f' g' h' i' j' : Text} → a ≡ a' → b ≡ b' → c ≡ c' →
    d ≡ d' → e ≡ e' → f ≡ f' → g ≡ g' → h ≡ h' → i ≡ i' → j ≡ j' →
    (a ∷ b ∷ c ∷ d ∷ e ∷ f ∷ g ∷ h ∷ i ∷ j ∷ []) ≡ (a' ∷ b' ∷ c' ∷ d' ∷ e' ∷ f' ∷ g' ∷ h' ∷ i' ∷ j' ∷ [])
ten_fields p q r s t u v w x y = λ k. p k ∷ q k ∷ r k ∷ s k ∷ t k ∷ u k ∷ v k ∷ w k ∷ x k ∷ y k ∷ []
