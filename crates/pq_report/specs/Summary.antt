-- The subject: the summary of a result. All of it is profile.
use Rattle.std.specs.Prelude.{ℕ, ◌+◌, ◌*◌, ◌%◌, ◌^◌, true, [], ◌∷◌, ◌++◌, List, bytes_eq, codes, count_by, decimal, filter, fold, length, map}
use Rattle.std.specs.List.{flat_map}
use Rattle.pq_items.specs.ItemTable.{end_of, has_mark, value_of}
use Rattle.pq_items.specs.declared.item.Item.{Item}
use Rattle.pq_report.specs.ReportReading.{kinds}
use Rattle.pq_report.specs.ReportText.{kind_of, kind_word, mark_word}
use Rattle.pq_report.specs.declared.kind.ItemKind.{ItemKind}
use Rattle.pq_report.specs.declared.result_summary.Tally.{Tally}
use Rattle.pq_words.specs.Text.{Text, joined_by}

-- the items of a kind
abbrev pub of_kind : ItemKind → List Item → List Item
of_kind kind items = filter (λ i. bytes_eq (kind_word (kind_of i)) (kind_word kind)) items

-- how many there are
abbrev pub number_of : List Item → ItemKind → ℕ
number_of items kind = length (of_kind kind items)

-- how many of these are flagged, or open
abbrev pub marked_of : List Item → ItemKind → ℕ
marked_of items kind = count_by has_mark (of_kind kind items)

-- the fold so far, and a further item
abbrev pub fold_with : ℕ → Item → ℕ
fold_with so_far i = (31 * so_far + value_of i + end_of i) % 2 ^ 64

-- the fold of the items, in order
abbrev pub fold_of : List Item → ℕ
fold_of items = fold fold_with 0 items

-- a name and a number
abbrev pub named : Text → ℕ → List Text
named name number = name ∷ decimal number ∷ []

-- a kind, a number and how many of these are flagged, or open
abbrev pub kind_words : ItemKind → ℕ → ℕ → List Text
kind_words kind number marked =
    kind_word kind ∷ decimal number ∷ mark_word kind true ∷ decimal marked ∷ []

-- the line of a kind: how many items there are of it, and how many of these are flagged, or open
abbrev pub kind_line : List Item → ItemKind → List Text
kind_line items kind = kind_words kind (number_of items kind) (marked_of items kind)

-- the lines of the summary
abbrev pub summary_lines : ℕ → ℕ → List Item → List (List Text)
summary_lines seed samples items = named (codes "seed") seed ∷ named (codes "samples") samples
    ∷ map (kind_line items) kinds ++ named (codes "fold") (fold_of items) ∷ []

-- words parted by spaces, with a line end
abbrev pub line_of : List Text → Text
line_of words = joined_by 32 words ++ 10 ∷ []

-- the text of the summary of a recording that is made from a seed and has so many samples
unfoldable pub summary_text : ℕ → ℕ → List Item → Text
summary_text seed samples items = flat_map line_of (summary_lines seed samples items)

-- ---- how it is taken

-- what is counted of items: how many there are of each kind, how many of these are marked, and their fold
abbrev pub tally_of : List Item → Tally
tally_of items = record {
  numbers = map (number_of items) kinds;
  marked = map (marked_of items) kinds;
  fold = fold_of items;
}
